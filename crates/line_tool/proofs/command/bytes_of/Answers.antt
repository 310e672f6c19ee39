use Rattle.line_tool.specs.Commands.{bytes_of}
use borrow.Author.Rules.{rules}
use Rattle.line_tool.proofs.command.bytes_of.Goals as goal

pub returns-then-is : goal.returns-then-is
unfolding bytes_of
returns-then-is c = search rules

pub returns-then-is-2 : goal.returns-then-is-2
unfolding bytes_of
returns-then-is-2 c = search rules

pub returns-then-is-3 : goal.returns-then-is-3
unfolding bytes_of
returns-then-is-3 c = search rules

pub returns-then-is-4 : goal.returns-then-is-4
unfolding bytes_of
returns-then-is-4 c = search rules

pub returns : goal.returns
unfolding bytes_of
returns c = search rules
