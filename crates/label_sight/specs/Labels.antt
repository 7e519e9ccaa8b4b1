-- The labels in sight at an item: how many are to come, and what a block entered or left, a label or a GOTO makes of them.
-- Assumes nothing: these are definitions.
use Rattle.std.specs.Prelude.{◌≡◌, Bool, true, ◌&&◌, not, List, [], ◌∷◌, ◌++◌, ℕ, ◌+◌, ◌-◌, ◌≤◌, length, take, drop, get_or}
use Rattle.flow.specs.Sheet.{member}
use Rattle.flow.specs.Refusals.{one}
use Rattle.flow.specs.Tree.{Frame, Open, labels_of}
use Rattle.arrayvec.specs.ArrayVec.{array_vec_len}
use Rattle.kinds.specs.Label.{is_label}
use Rattle.label_sight.specs.declared.LabelStack.{LabelStack}

-- ---- how many labels there are

-- how many labels with a name there are
unfoldable pub named : List ℕ → ℕ
named [] = 0
named (w ∷ ws) = one (is_label w) + named ws

-- none stands at a place or after it
pub record Unlabelled (ks : List ℕ) (end : ℕ) : Type 0 where
  pub within : end ≤ length ks
  pub none : named (drop end ks) ≡ 0

-- how many labels stand directly in the open blocks, of what is still to come
unfoldable pub frames_labels : List Frame → ℕ
frames_labels [] = 0
frames_labels (f ∷ fs) = length (labels_of f.body) + frames_labels fs

unfoldable pub labels_to_come : Open → ℕ
labels_to_come o = length (labels_of o.top.body) + frames_labels o.below

-- ---- in sight

-- at the start: the outermost block, of which no label is found yet
abbrev pub nothing_seen : LabelStack
nothing_seen = record { labels = record { items = [] }; marks = record { items = [] }; base = 0 }

-- a block opened with no label found yet, its next arm likewise, and the block closed
abbrev pub opened_sight : LabelStack → LabelStack
opened_sight x = record { labels = x.labels; marks = record { items = x.marks.items ++ (x.base ∷ []) }; base = array_vec_len x.labels }

abbrev pub next_arm : LabelStack → LabelStack
next_arm x = record { labels = record { items = take x.base x.labels.items }; marks = x.marks; base = x.base }

abbrev pub closed_sight : LabelStack → LabelStack
closed_sight x = record { labels = record { items = take x.base x.labels.items }; marks = record { items = take (array_vec_len x.marks - 1) x.marks.items }; base = get_or x.marks.items (array_vec_len x.marks - 1) 0 }

-- the labels of the innermost block that are found so far
abbrev pub in_block : LabelStack → List ℕ
in_block x = drop x.base x.labels.items

-- of names that come one after the other into a block of the labels xs, whether none repeats one that stands there by then
unfoldable pub none_repeats : List ℕ → List ℕ → Bool
none_repeats xs [] = true
none_repeats xs (a ∷ as') = not (member a xs) && none_repeats (xs ++ (a ∷ [])) as'

-- the names as' are in sight besides, as labels of the innermost block
pub record Entered (as' : List ℕ) (x r : LabelStack) : Type 0 where
  pub labels : r.labels.items ≡ x.labels.items ++ as'
  pub marks : r.marks ≡ x.marks
  pub base : r.base ≡ x.base
