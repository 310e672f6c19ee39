-- The theorems of specs/Theorems.
use native.Mathlib.Omega.{arith}
use Rattle.storage_theorems.specs.OwnerTheorems.{OwnersTheorems}
use Rattle.storage_theorems.proofs.Owners.{reown}
use Rattle.storage_theorems.proofs.Steps.{drops-own}
use Rattle.storage_theorems.proofs.Elsewhere.{own-elsewhere, cell-elsewhere}
use Rattle.storage_theorems.proofs.Place.{place-theorem}
use Rattle.storage_theorems.proofs.Element.{element-theorem}
use Rattle.storage_theorems.proofs.OwnerCounts.{share-theorem, drop-theorem}

pub owners-theorems : OwnersTheorems
owners-theorems = record {
  place = λ s owners shape elements own ok. place-theorem shape elements own ok;
  share = λ s owners w own few h. share-theorem w own (omega (arith, few)) h;
  drop = λ s owners w own. drop-theorem w own;
  drops = λ s owners n a own h. drops-own n owners a own h;
  reorder = λ s owners others e own. reown others e own;
  elsewhere = λ s after owners own h. record { own = own-elsewhere h own; same = cell-elsewhere h own };
  element = λ s owners own x size k v u h ok. element-theorem own x size u k v h ok;
}
