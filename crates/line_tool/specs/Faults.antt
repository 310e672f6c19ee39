-- The words of an error, which stand before a colon and the token that is wrong. A reader must believe nothing. Assumes nothing.
use Rattle.std.specs.Prelude.{ℕ, ◌≡◌, refl, cond, List, ◌++◌, leb, length, take}
use Prim.Native.String.{String}
use Rattle.line_tool.specs.Text.{bytes}
use Rattle.line_tool.specs.declared.fault.Fault.{Fault}
use Rattle.line_tool.specs.declared.fault.Fault.TheVariants as F

unfoldable pub fault_text : Fault → String
fault_text F.NoCommand = "no such command"
fault_text F.Missing = "something is missing after"
fault_text F.Extra = "more than the command takes"
fault_text F.NotDecimal = "not a decimal number"
fault_text F.TooLarge = "a number above 4294967295"
fault_text F.NotHex = "not only digits 0 to 9 and a to f"
fault_text F.TooLong = "a word of more than 8 digits"
fault_text F.Odd = "an odd number of digits, two are a byte"
fault_text F.TooManyBytes = "more than 40000 bytes"
fault_text F.LongFile = "more than 100000 bytes"
fault_text F.LongTable = "more than 1000 bytes"
fault_text F.TooManyWords = "more than 40000 words"
fault_text F.PastEnd = "past the end of the segment"
fault_text F.NoBar = "no bar | where the lengths end"
fault_text F.LongLine = "the line is too long, it begins with"

-- A token of an error: its first 40 bytes.
unfoldable pub shown : List ℕ → List ℕ
shown token = cond (leb (length token) 40) token (take 40 token ++ bytes "..")

missing : fault_text F.Missing ≡ "something is missing after"
unfolding fault_text
missing = refl

whole : shown (bytes "0x12") ≡ bytes "0x12"
unfolding shown
whole = refl

cut : shown (bytes "0123456789012345678901234567890123456789z") ≡ bytes "0123456789012345678901234567890123456789.."
unfolding shown
cut = refl
