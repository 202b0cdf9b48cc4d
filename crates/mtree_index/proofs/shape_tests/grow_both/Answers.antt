use Rattle.std.proofs.Common.{List, ℕ, sym, ap, ◌∙◌, arith}
use Rattle.std.specs.FinMap as map
use Rattle.std.specs.Ordering.{nat_cmp}
use Rattle.vec_record.specs.Held.{Held}
use Rattle.mtree_index.specs.Plain.{PlainTree}
use Rattle.mtree_index.specs.Tree.{contents}
use Rattle.mtree_index.proofs.shape_tests.grow_both.Goals as goal

pub loop-number-init : goal.loop-number-init
loop-number-init g c = record {
  width = ap (λ (t : PlainTree). t.width) c.empty-tree.ensures;
  records_width = ap (λ (h : Held). h.width) c.new-records.ensures;
  same = ap contents c.empty-tree.ensures ∙ sym (ap (λ (h : Held). h.vectors) c.new-records.ensures);
  fresh = λ q l. ap (λ (t : PlainTree). map.get (contents t) q) c.empty-tree.ensures ∙ map.get-empty nat_cmp q;
  few = omega (arith, ap (λ (t : PlainTree). map.len (contents t)) c.empty-tree.ensures, map.len-empty nat_cmp (List ℕ));
}
