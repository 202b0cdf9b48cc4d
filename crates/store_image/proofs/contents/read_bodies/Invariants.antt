use Rattle.std.proofs.Common.{◌≡◌, ◌-◌, drop}
use Rattle.std.specs.List.{AllByRecursion}
use Rattle.page_layout.specs.Heads.{values_of}
use Rattle.page_layout.specs.Bodies.{IsBody}
use Rattle.store_image.specs.Loading.{bodies_in}
use Rattle.store_image.specs.inside.Reads.{bodies_behind}
use Rattle.store_image.proofs.contents.read_bodies.Given as goal

abbrev pub invariant-loop-number : goal.invariant-loop-number
invariant-loop-number l = record {
  same : bodies_in (values_of l.params) 2 (drop 1 l.pages.list) ≡ bodies_behind (values_of l.params) l.number (drop (l.number - 1) l.pages.list) l.bodies.items;
  lawful : AllByRecursion (IsBody (values_of l.params)) l.bodies.items;
}
