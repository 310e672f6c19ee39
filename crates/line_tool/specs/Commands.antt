-- The commands by their words. A reader must believe: these are the line tool's commands. Assumes nothing.
use Rattle.std.specs.Prelude.{ℕ, ◌≡◌, refl, Bool, true, false, cond, List, [], ◌∷◌, eqb, Option, Some, None}
use Rattle.line_tool.specs.Text.{bytes}
use Rattle.line_tool.specs.declared.command.Command.{Command}
use Rattle.line_tool.specs.declared.command.Command.TheVariants.{Seg, Word, Words, Reg, Alt, File, Table, Layout, Run, Load, Look, Sheet, Replay, Dump, Hash, Tally, Explain, Help}

-- Two texts are the same.
unfoldable pub is : List ℕ → List ℕ → Bool
is [] [] = true
is [] (b ∷ bs) = false
is (c ∷ cs) [] = false
is (c ∷ cs) (b ∷ bs) = cond (eqb c b) (is cs bs) false

-- The commands that only answer.
unfoldable pub question_of : List ℕ → Option Command
question_of word =
    cond (is word (bytes "dump")) (Some Dump)
    (cond (is word (bytes "hash")) (Some Hash)
    (cond (is word (bytes "tally")) (Some Tally)
    (cond (is word (bytes "explain")) (Some Explain)
    (cond (is word (bytes "help")) (Some Help)
    None))))

-- The commands over the operations.
unfoldable pub operation_of : List ℕ → Option Command
operation_of word =
    cond (is word (bytes "layout")) (Some Layout)
    (cond (is word (bytes "run")) (Some Run)
    (cond (is word (bytes "load")) (Some Load)
    (cond (is word (bytes "look")) (Some Look)
    (cond (is word (bytes "sheet")) (Some Sheet)
    (cond (is word (bytes "replay")) (Some Replay)
    (question_of word))))))

-- Those that set bytes which the operations are lent.
unfoldable pub bytes_of : List ℕ → Option Command
bytes_of word =
    cond (is word (bytes "reg")) (Some Reg)
    (cond (is word (bytes "alt")) (Some Alt)
    (cond (is word (bytes "file")) (Some File)
    (cond (is word (bytes "table")) (Some Table)
    (operation_of word))))

-- First those that set words.
unfoldable pub command_of : List ℕ → Option Command
command_of word =
    cond (is word (bytes "seg")) (Some Seg)
    (cond (is word (bytes "word")) (Some Word)
    (cond (is word (bytes "words")) (Some Words)
    (bytes_of word)))

same : is (bytes "run") (bytes "run") ≡ true
unfolding is
same = refl

shorter : is (bytes "ru") (bytes "run") ≡ false
unfolding is
shorter = refl

question : question_of (bytes "explain") ≡ Some Explain
unfolding question_of is
question = refl

operation : operation_of (bytes "look") ≡ Some Look
unfolding operation_of is
operation = refl

longer : command_of (bytes "words") ≡ Some Words
unfolding command_of is
longer = refl

lent : command_of (bytes "table") ≡ Some Table
unfolding command_of bytes_of is
lent = refl

last : command_of (bytes "help") ≡ Some Help
unfolding command_of bytes_of operation_of question_of is
last = refl

other : command_of (bytes "Seg") ≡ None
unfolding command_of bytes_of operation_of question_of is
other = refl
