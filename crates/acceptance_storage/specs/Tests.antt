-- How tests are put together. Assumes nothing.
use Rattle.std.specs.Prelude.{ℕ, zero, suc, ◌+◌, Bool, true, ◌&&◌, List, get_or}
use Rattle.std.specs.List.{list_all}

-- A test of every member of a list.
abbrev pub every : (ℕ → Bool) → List ℕ → Bool
every test = list_all test

-- A test of each of the `n` words from `i` on.
unfoldable pub words_where : ℕ → (ℕ → Bool) → List ℕ → ℕ → Bool
words_where zero test s i = true
words_where (suc n) test s i = let others = words_where n test s (i + 1) in test (get_or s i 0) && others
