-- The settings of a block that is entered.
-- Assumes nothing: these are definitions.
use Rattle.std.specs.Prelude.{ℕ}
use Rattle.block_settings.specs.declared.BlockSettings.{BlockSettings}

-- inside a scope that ends at e, and inside a loop, with the labels outside
abbrev pub scope_settings : ℕ → BlockSettings → BlockSettings
scope_settings e st = record { labels = st.labels; scope_end = e; break_target = st.break_target; continue_target = st.continue_target }

abbrev pub loop_settings : ℕ → ℕ → BlockSettings → BlockSettings
loop_settings after next st = record { labels = st.labels; scope_end = st.scope_end; break_target = after; continue_target = next }
