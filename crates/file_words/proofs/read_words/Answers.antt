-- `file_words::read_words` meets its contract: at the loop's head the first i words are read.
-- Assumes nothing.
use mathlib.Core.Path.{sym, ◌∙◌}
use mathlib.Core.List.{[]}
use Prim.Native.Nat.{◌/◌}
use native.Mathlib.Omega.{arith}
use lib.ListN.{length}
use lib.Seq.{take_all}
use Rattle.flow.specs.Listing.{file_words}
use Rattle.file_words.proofs.Split.{words_long}
use Rattle.file_words.proofs.Words.{of_chunk, next_word}
use Rattle.file_words.proofs.read_words.Goals as goal

pub loop-i-preserved : goal.loop-i-preserved
loop-i-preserved c =
    let n = length c.args.words.now in
    let bytes = c.args.bytes.now in
    let word = rw c.as_chunks.ensures.front at c.from_le_bytes.ensures in
    next_word n bytes c.loop-i.words c.loop-i.i c.loop-i.auto.words c.loop-i-test.true c.loop-i.invariant (word ∙ of_chunk (length bytes / 8) n bytes c.loop-i.i [] (omega arith) c.loop-i-test.true)

pub returns : goal.returns
returns c =
    let n = length c.args.words.now in
    let words = file_words n c.args.bytes.now in
    sym (take_all c.loop-i.i c.loop-i.words (omega (arith, c.loop-i.auto.words))) ∙ c.loop-i.invariant ∙ take_all c.loop-i.i words (omega (arith, words_long n c.args.bytes.now))
