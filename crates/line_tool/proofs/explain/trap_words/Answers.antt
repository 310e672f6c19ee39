use mathlib.Core.Path.{sym, ap}
use Rattle.line_tool.specs.Text.{bytes}
use Rattle.line_tool.specs.Explain.{traps, trap_words}
use Rattle.line_tool.proofs.Entries.{unknown}
use Rattle.line_tool.proofs.explain.trap_words.Goals as goal

pub returns-in-257 : goal.returns-in-257
unfolding trap_words
returns-in-257 c = simp c.in-257.is

pub returns-in-258 : goal.returns-in-258
unfolding trap_words
returns-in-258 c = simp c.in-258.is

pub returns-in-513 : goal.returns-in-513
unfolding trap_words
returns-in-513 c = simp c.in-513.is

pub returns-in-514 : goal.returns-in-514
unfolding trap_words
returns-in-514 c = simp c.in-514.is

pub returns-in-515 : goal.returns-in-515
unfolding trap_words
returns-in-515 c = simp c.in-515.is

pub returns-in-516 : goal.returns-in-516
unfolding trap_words
returns-in-516 c = simp c.in-516.is

pub returns-in-769 : goal.returns-in-769
unfolding trap_words
returns-in-769 c = simp c.in-769.is

pub returns-in-770 : goal.returns-in-770
unfolding trap_words
returns-in-770 c = simp c.in-770.is

pub returns-in-771 : goal.returns-in-771
unfolding trap_words
returns-in-771 c = simp c.in-771.is

pub returns-in-772 : goal.returns-in-772
unfolding trap_words
returns-in-772 c = simp c.in-772.is

pub returns-in-773 : goal.returns-in-773
unfolding trap_words
returns-in-773 c = simp c.in-773.is

pub returns-in-774 : goal.returns-in-774
unfolding trap_words
returns-in-774 c = simp c.in-774.is

pub returns-in-775 : goal.returns-in-775
unfolding trap_words
returns-in-775 c = simp c.in-775.is

pub returns-in-776 : goal.returns-in-776
unfolding trap_words
returns-in-776 c = simp c.in-776.is

pub returns-in-777 : goal.returns-in-777
unfolding trap_words
returns-in-777 c = simp c.in-777.is

pub returns-in-778 : goal.returns-in-778
unfolding trap_words
returns-in-778 c = simp c.in-778.is

pub returns-in-779 : goal.returns-in-779
unfolding trap_words
returns-in-779 c = simp c.in-779.is

pub returns-in-780 : goal.returns-in-780
unfolding trap_words
returns-in-780 c = simp c.in-780.is

pub returns-in-781 : goal.returns-in-781
unfolding trap_words
returns-in-781 c = simp c.in-781.is

pub returns-in-1024 : goal.returns-in-1024
unfolding trap_words
returns-in-1024 c = simp c.in-1024.is

pub returns-in-1280 : goal.returns-in-1280
unfolding trap_words
returns-in-1280 c = simp c.in-1280.is

pub returns-in-1536 : goal.returns-in-1536
unfolding trap_words
returns-in-1536 c = simp c.in-1536.is

pub returns-in-1792 : goal.returns-in-1792
unfolding trap_words
returns-in-1792 c = simp c.in-1792.is

pub returns-in-2049 : goal.returns-in-2049
unfolding trap_words
returns-in-2049 c = simp c.in-2049.is

pub returns-in-2050 : goal.returns-in-2050
unfolding trap_words
returns-in-2050 c = simp c.in-2050.is

pub returns-in-2051 : goal.returns-in-2051
unfolding trap_words
returns-in-2051 c = simp c.in-2051.is

pub returns-in-2052 : goal.returns-in-2052
unfolding trap_words
returns-in-2052 c = simp c.in-2052.is

pub returns-in-2053 : goal.returns-in-2053
unfolding trap_words
returns-in-2053 c = simp c.in-2053.is

pub returns-in-2305 : goal.returns-in-2305
unfolding trap_words
returns-in-2305 c = simp c.in-2305.is

pub returns-in-2306 : goal.returns-in-2306
unfolding trap_words
returns-in-2306 c = simp c.in-2306.is

pub returns-in-2560 : goal.returns-in-2560
unfolding trap_words
returns-in-2560 c = simp c.in-2560.is

pub returns-in_default : goal.returns-in_default
unfolding trap_words
returns-in_default c = ap bytes (sym (unknown c.args.word traps "no such trap" c.in_default.in_default-own.rest).1)
