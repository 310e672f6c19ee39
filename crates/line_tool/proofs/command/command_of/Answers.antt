use Rattle.line_tool.specs.Commands.{command_of}
use borrow.Author.Rules.{rules}
use Rattle.line_tool.proofs.command.command_of.Goals as goal

pub returns-then-is : goal.returns-then-is
unfolding command_of
returns-then-is c = search rules

pub returns-then-is-2 : goal.returns-then-is-2
unfolding command_of
returns-then-is-2 c = search rules

pub returns-then-is-3 : goal.returns-then-is-3
unfolding command_of
returns-then-is-3 c = search rules

pub returns : goal.returns
unfolding command_of
returns c = search rules
