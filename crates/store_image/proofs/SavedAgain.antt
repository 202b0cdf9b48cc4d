-- What is saved is read again: its head, its body pages, no more than needed, and each number in one slot.
use Rattle.std.proofs.Common.{◌≡◌, ℕ, List, map, sym, ◌∙◌, ap, subst}
use Rattle.vec_record.specs.Held as held
use Rattle.node_places.specs.Slots.{AreApart}
use Rattle.page_layout.specs.declared.body.Body.{Body}
use Rattle.page_layout.specs.Heads.{HeadValue}
use Rattle.page_layout.specs.Bodies.{body_bytes}
use Rattle.page_layout.specs.Laws.{HeadsHaveOneSpelling, BodiesHaveOneSpelling, WrittenArePages}
use Rattle.store_image.specs.Contents.{all_slots}
use Rattle.store_image.specs.Images.{number_of}
use Rattle.store_image.specs.Placing.{numbers_after, saved_head, saved_bodies, saved_pages, ArePagesOf, CanBeSaved}
use Rattle.kept_clusters.specs.Kept.{Kept}
use Rattle.store_image.specs.SavedLaws.{SavedAreRead}
use Rattle.store_image.proofs.SavedReads.{bodies_read, head_read}
use Rattle.store_image.proofs.SavedSlots.{numbers_back}
use Rattle.store_image.proofs.SavedCounts.{Below, apart, saved_few}
use Rattle.store_image.proofs.SavedWritten.{each_body, head_is}
use Rattle.store_image.proofs.SavedLoads.{slots_are}

module _ (below : Below) (heads : HeadsHaveOneSpelling) (spelled : BodiesHaveOneSpelling) (written : WrittenArePages)
    (dist : List ℕ → List ℕ → ℕ) (most : ℕ → ℕ) (h : HeadValue) (bodies : List Body) (pages : List (List ℕ)) (records : held.Held) (kept : Kept)
    (are : ArePagesOf h bodies pages) (can : CanBeSaved dist most h records kept) where
  again : ArePagesOf (saved_head h bodies records.vectors kept) (saved_bodies h.values bodies records.vectors kept) (saved_pages h bodies records.vectors kept)
  unfolding saved_pages
  again =
      let all = saved_bodies h.values bodies records.vectors kept in
      let numbers = numbers_after h.values bodies records.vectors in
      let same : map number_of (all_slots all) ≡ numbers =
      ap (map number_of) (slots_are below dist most h bodies pages records kept are can) ∙ numbers_back records.vectors kept numbers in
      record {
        head = head_read heads written (saved_head h bodies records.vectors kept) (map (body_bytes h.values) all) (head_is below dist most h bodies pages records kept are can);
        bodies_are = bodies_read h.values spelled written can.head.values 2 all (each_body below dist most h bodies pages records kept are can);
        few = saved_few below dist most h bodies pages records kept are can;
        once = subst AreApart (sym same) (apart below dist most h bodies pages records kept are can);
      }

pub saved_are_read : Below → HeadsHaveOneSpelling → BodiesHaveOneSpelling → WrittenArePages → SavedAreRead
saved_are_read below heads spelled written dist most h bodies pages records kept are can =
    again below heads spelled written dist most h bodies pages records kept are can
