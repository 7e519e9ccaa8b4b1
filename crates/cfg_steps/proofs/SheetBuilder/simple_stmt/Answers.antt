-- `cfg_steps::SheetBuilder::simple_stmt` meets its contract: names, labels, gotos, empty statements and statements with code, by kind.
-- Assumes nothing.
use mathlib.Core.Path.{sym, ◌∙◌}
use Rattle.std.proofs.Common.{rules}
use Rattle.flow.specs.Sheet.{kind_of}
use Rattle.cfg_steps.proofs.Simple.{did_none, did_as, kind_is, simple_name, simple_label, simple_goto, simple_empty, simple_break, simple_continue, simple_return, simple_raise, simple_call, Other, simple_code, made_one, starts}
use Rattle.cfg_steps.proofs.SheetBuilder.simple_stmt.Goals as goal
use Rattle.cfg_steps.proofs.SheetBuilder.simple_stmt.Goals.{in_default-via-in-Some-Call+else-call_raises, in_default-via-in-Some+in_default, in_default-via-in_default}

pub returns-in-Some-Name-clause-built : goal.returns-in-Some-Name-clause-built
returns-in-Some-Name-clause-built c = λ ks e. let k = kind_is _ c.of.ensures c.in-Some-Name.is c.in-Some-Name.field-0-is in did_as (rw k) (λ ss g. simple_name _ _ _ _ _ g k) (c.declare.ensures.built ks c.args.self.now.good)

pub returns-in-Some-Label-clause-built : goal.returns-in-Some-Label-clause-built
returns-in-Some-Label-clause-built c = λ ks e. let k = kind_is _ c.of.ensures c.in-Some-Label.is c.in-Some-Label.field-0-is in did_as (rw k) (λ ss g. simple_label _ _ _ _ _ g k) (c.label_stmt.ensures.built ks c.args.self.now.good (rw (e, k)))

pub returns-in-Some-Goto-clause-built : goal.returns-in-Some-Goto-clause-built
returns-in-Some-Goto-clause-built c = λ ks e. let k = kind_is _ c.of.ensures c.in-Some-Goto.is c.in-Some-Goto.field-0-is in did_as (rw k) (λ ss g. simple_goto _ _ _ _ _ g k) (c.goto_stmt.ensures.built ks c.args.self.now.good (rw (e, k)))

pub returns-in-Some-Empty-clause-built : goal.returns-in-Some-Empty-clause-built
returns-in-Some-Empty-clause-built c = λ ks e. let k = kind_is _ c.of.ensures c.in-Some-Empty.is c.in-Some-Empty.field-0-is in did_as (rw k) (λ ss g. simple_empty _ _ _ _ _ g k) (did_none ks _ _ c.args.self.now.good)

pub returns-in-Some-Break-clause-built : goal.returns-in-Some-Break-clause-built
returns-in-Some-Break-clause-built c = λ ks e. let k = kind_is _ c.of.ensures c.in-Some-Break.is c.in-Some-Break.field-0-is in did_as (rw k) (λ ss g. simple_break _ _ _ _ _ g k) (c.jump.ensures.built ks c.args.self.now.good (rw (e, k)))

pub returns-in-Some-Continue-clause-built : goal.returns-in-Some-Continue-clause-built
returns-in-Some-Continue-clause-built c = λ ks e. let k = kind_is _ c.of.ensures c.in-Some-Continue.is c.in-Some-Continue.field-0-is in did_as (rw k) (λ ss g. simple_continue _ _ _ _ _ g k) (c.jump-in-Some-Continue.ensures.built ks c.args.self.now.good (rw (e, k)))

pub returns-in-Some-Return-clause-built : goal.returns-in-Some-Return-clause-built
returns-in-Some-Return-clause-built c = λ ks e. let k = kind_is _ c.of.ensures c.in-Some-Return.is c.in-Some-Return.field-0-is in did_as (rw k) (λ ss g. simple_return _ _ _ _ _ g _ k c.return_exit.ensures.0) (c.jump-in-Some-Return.ensures.built ks c.args.self.now.good (rw (e, k)))

pub returns-in-Some-Call-clause-built : goal.returns-in-Some-Call-clause-built
returns-in-Some-Call-clause-built c = λ ks e. let k = kind_is _ c.of.ensures c.in-Some-Call.is c.in-Some-Call.field-0-is in did_as (rw k) (λ ss g. simple_raise _ _ _ _ _ g k (sym c.call_raises.ensures ∙ c.if-call_raises.true)) (c.jump-in-Some-Call.ensures.built ks c.args.self.now.good (rw (e, k)))

pub returns-in_default-clause-built : goal.returns-in_default-clause-built
returns-in_default-clause-built c = elim c.in_default.branch [
  | in_default-via-in-Some-Call+else-call_raises w ↦ λ ks e. let k = kind_is _ c.of.ensures w.in-Some-Call.is w.in-Some-Call.field-0-is in did_as (rw k) (λ ss g. simple_call _ _ _ _ _ g k (sym w.call_raises.ensures ∙ w.if-call_raises.false)) ((rw w.self-is at c.code.ensures.by_index) ks c.args.self.now.good (rw (e, k)))
  | in_default-via-in-Some+in_default w ↦ λ ks e. let o : Other (kind_of c.args.w) = (search rules, search rules, search rules, search rules, search rules, search rules, search rules, search rules) in did_as (made_one _ o) (λ ss g. simple_code _ _ _ _ _ g o) ((rw w.self-is at c.code.ensures.by_index) ks c.args.self.now.good (rw e (starts _ c.requires.no_close.0 c.requires.no_close.1 o.1)))
  | in_default-via-in_default w ↦ λ ks e. let o : Other (kind_of c.args.w) = (search rules, search rules, search rules, search rules, search rules, search rules, search rules, search rules) in did_as (made_one _ o) (λ ss g. simple_code _ _ _ _ _ g o) ((rw w.self-is at c.code.ensures.by_index) ks c.args.self.now.good (rw e (starts _ c.requires.no_close.0 c.requires.no_close.1 o.1)))
]
