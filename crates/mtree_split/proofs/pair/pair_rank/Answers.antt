use Rattle.std.proofs.Common.{◌/◌, ◌%◌, ap, ◌∙◌, arith, inl, inr, suc, refl}
use Rattle.std.proofs.lemmas.Bool.Decides.{leb_tells}
use Rattle.mtree_split.specs.Choice.{pair_rank, greater_radius}
use Rattle.mtree_split.proofs.pair.pair_rank.Goals as goal

pub returns-then-left-right : goal.returns-then-left-right
unfolding pair_rank
returns-then-left-right c =
    elim (leb_tells (suc (c.args.place / c.args.count)) (c.args.place % c.args.count)) [
      | inl h ↦ rw h.0 (c.from.ensures ∙ c.max.ensures ∙ ap greater_radius c.parting_of-parting.ensures)
      | inr h ↦ absurd (omega (arith, h.1))
    ]

pub returns-else-left-right : goal.returns-else-left-right
unfolding pair_rank
returns-else-left-right c =
    elim (leb_tells (suc (c.args.place / c.args.count)) (c.args.place % c.args.count)) [
      | inl h ↦ absurd (omega (arith, h.1))
      | inr h ↦ rw h.0 refl
    ]
