-- The theorems of specs/Theorems.
use Rattle.storage_theorems.specs.HeapTheorems.{HeapTheorems}
use Rattle.storage_theorems.proofs.Request.{request-theorem}
use Rattle.storage_theorems.proofs.Release.{release-theorem}
use Rattle.storage_theorems.proofs.Tiling.{tiling-theorem}

pub heap-theorems : HeapTheorems
heap-theorems = record {
  tiling = λ s blocks ring g. tiling-theorem g;
  request = λ s blocks ring size g n. request-theorem size g n;
  release = λ s blocks ring x size g h. release-theorem g x size h;
}
