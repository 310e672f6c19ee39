use Rattle.fast_path.proofs.Standing.{short-names}
use Rattle.fast_path.proofs.naming.variable.Goals as goal

pub returns-in-ShortLocal : goal.returns-in-ShortLocal
returns-in-ShortLocal c = λ some. short-names _ _ _ _ _ c.in-ShortLocal.is (c.local.ensures some)
