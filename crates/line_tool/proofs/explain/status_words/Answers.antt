use mathlib.Core.Path.{sym, ap}
use Rattle.line_tool.specs.Text.{bytes}
use Rattle.line_tool.specs.Explain.{statuses, status_words}
use Rattle.line_tool.proofs.Entries.{unknown}
use Rattle.line_tool.proofs.explain.status_words.Goals as goal

pub returns-in-0 : goal.returns-in-0
unfolding status_words
returns-in-0 c = simp c.in-0.is

pub returns-in-2 : goal.returns-in-2
unfolding status_words
returns-in-2 c = simp c.in-2.is

pub returns-in-3 : goal.returns-in-3
unfolding status_words
returns-in-3 c = simp c.in-3.is

pub returns-in-10 : goal.returns-in-10
unfolding status_words
returns-in-10 c = simp c.in-10.is

pub returns-in-11 : goal.returns-in-11
unfolding status_words
returns-in-11 c = simp c.in-11.is

pub returns-in-12 : goal.returns-in-12
unfolding status_words
returns-in-12 c = simp c.in-12.is

pub returns-in-13 : goal.returns-in-13
unfolding status_words
returns-in-13 c = simp c.in-13.is

pub returns-in-14 : goal.returns-in-14
unfolding status_words
returns-in-14 c = simp c.in-14.is

pub returns-in-15 : goal.returns-in-15
unfolding status_words
returns-in-15 c = simp c.in-15.is

pub returns-in-16 : goal.returns-in-16
unfolding status_words
returns-in-16 c = simp c.in-16.is

pub returns-in-17 : goal.returns-in-17
unfolding status_words
returns-in-17 c = simp c.in-17.is

pub returns-in-18 : goal.returns-in-18
unfolding status_words
returns-in-18 c = simp c.in-18.is

pub returns-in-19 : goal.returns-in-19
unfolding status_words
returns-in-19 c = simp c.in-19.is

pub returns-in-20 : goal.returns-in-20
unfolding status_words
returns-in-20 c = simp c.in-20.is

pub returns-in-21 : goal.returns-in-21
unfolding status_words
returns-in-21 c = simp c.in-21.is

pub returns-in-22 : goal.returns-in-22
unfolding status_words
returns-in-22 c = simp c.in-22.is

pub returns-in-23 : goal.returns-in-23
unfolding status_words
returns-in-23 c = simp c.in-23.is

pub returns-in-24 : goal.returns-in-24
unfolding status_words
returns-in-24 c = simp c.in-24.is

pub returns-in-25 : goal.returns-in-25
unfolding status_words
returns-in-25 c = simp c.in-25.is

pub returns-in-26 : goal.returns-in-26
unfolding status_words
returns-in-26 c = simp c.in-26.is

pub returns-in_default : goal.returns-in_default
unfolding status_words
returns-in_default c = ap bytes (sym (unknown c.args.n statuses "no such status" c.in_default.in_default-own.rest).1)
