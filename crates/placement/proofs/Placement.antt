-- The rules of placement: the theorem of specs/Placement.
use Rattle.placement.specs.Placement.{Placement}
use Rattle.placement.proofs.Rings.{ring-one, heap-ring, dummy-ring}
use Rattle.placement.proofs.Found.{found, given-found, turned-found}
use Rattle.placement.proofs.Released as ways
use Rattle.placement.proofs.Order as order

pub placement : Placement
placement = record {
  ring = λ s blocks ring g. heap-ring g;
  one = λ s a l m h k. ring-one h k;
  found = λ s blocks ring size g n3 h. found size g n3 h;
  given = λ s blocks ring size g n3 w. given-found size g n3 w;
  turned = λ s blocks ring size g n3 w. turned-found size g n3 w;
  dummy_in = λ s blocks ring g. dummy-ring g;
  released = λ s blocks ring x size g u members r. ways.released g x size u members r;
  downwards = λ s owners n a own h. order.drops-each n owners a own h;
  replaced = λ s g n source h f. order.replaced s g n source h f;
  stored = λ s t source. order.stored s t source;
  stored_element = λ s g t place w n h f. order.stored_element s g t place w n h f;
  discarded = λ s g n h. order.discarded s g n h;
  left = λ s g n h. order.left s g n h;
  left_without = λ s g n h. order.left_without s g n h;
}
