use Rattle.line_tool.specs.Commands.{question_of}
use borrow.Author.Rules.{rules}
use Rattle.line_tool.proofs.command.question_of.Goals as goal

pub returns-then-is : goal.returns-then-is
unfolding question_of
returns-then-is c = search rules

pub returns-then-is-2 : goal.returns-then-is-2
unfolding question_of
returns-then-is-2 c = search rules

pub returns-then-is-3 : goal.returns-then-is-3
unfolding question_of
returns-then-is-3 c = search rules

pub returns-then-is-4 : goal.returns-then-is-4
unfolding question_of
returns-then-is-4 c = search rules

pub returns-then-is-5 : goal.returns-then-is-5
unfolding question_of
returns-then-is-5 c = search rules

pub returns : goal.returns
unfolding question_of
returns c = search rules
