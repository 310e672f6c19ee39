use Rattle.line_tool.specs.Faults.{fault_text}
use Rattle.line_tool.proofs.fault.Fault.text.Goals as goal

pub returns-in-NoCommand : goal.returns-in-NoCommand
unfolding fault_text
returns-in-NoCommand c = simp c.in-NoCommand.is

pub returns-in-Missing : goal.returns-in-Missing
unfolding fault_text
returns-in-Missing c = simp c.in-Missing.is

pub returns-in-Extra : goal.returns-in-Extra
unfolding fault_text
returns-in-Extra c = simp c.in-Extra.is

pub returns-in-NotDecimal : goal.returns-in-NotDecimal
unfolding fault_text
returns-in-NotDecimal c = simp c.in-NotDecimal.is

pub returns-in-TooLarge : goal.returns-in-TooLarge
unfolding fault_text
returns-in-TooLarge c = simp c.in-TooLarge.is

pub returns-in-NotHex : goal.returns-in-NotHex
unfolding fault_text
returns-in-NotHex c = simp c.in-NotHex.is

pub returns-in-TooLong : goal.returns-in-TooLong
unfolding fault_text
returns-in-TooLong c = simp c.in-TooLong.is

pub returns-in-Odd : goal.returns-in-Odd
unfolding fault_text
returns-in-Odd c = simp c.in-Odd.is

pub returns-in-TooManyBytes : goal.returns-in-TooManyBytes
unfolding fault_text
returns-in-TooManyBytes c = simp c.in-TooManyBytes.is

pub returns-in-LongFile : goal.returns-in-LongFile
unfolding fault_text
returns-in-LongFile c = simp c.in-LongFile.is

pub returns-in-LongTable : goal.returns-in-LongTable
unfolding fault_text
returns-in-LongTable c = simp c.in-LongTable.is

pub returns-in-TooManyWords : goal.returns-in-TooManyWords
unfolding fault_text
returns-in-TooManyWords c = simp c.in-TooManyWords.is

pub returns-in-PastEnd : goal.returns-in-PastEnd
unfolding fault_text
returns-in-PastEnd c = simp c.in-PastEnd.is

pub returns-in-NoBar : goal.returns-in-NoBar
unfolding fault_text
returns-in-NoBar c = simp c.in-NoBar.is

pub returns-in-LongLine : goal.returns-in-LongLine
unfolding fault_text
returns-in-LongLine c = simp c.in-LongLine.is
