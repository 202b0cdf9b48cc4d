use Rattle.std.proofs.Common.{◌∙◌, sym, ap, refl}
use Rattle.std.specs.FinMap as map
use Rattle.number_map.proofs.Maps.{get_held, one_given, on_loan}
use Rattle.number_map.proofs.map.NumberMap.get_mut.Goals as goal

pub returns : goal.returns
returns g c =
    let es = c.self.inside.entries.entries in (
      (
        refl,
        λ w. on_loan c.get_mut.result _ _ c.get_mut.ensures.value (λ s.
            one_given es (c.get_mut.follows.lender w).entries c.args.number w ((c.get_mut.follows.holds w).3 s).0 ∙ ap (λ m. map.insert m c.args.number w) c.self.view_is),
        ap (λ m. map.from_entries m.entries) c.get_mut.follows.holds-at-none ∙ c.self.view_is,
      ),
      record {
        writes_back = tt;
        value = c.get_mut.ensures.value ∙ (sym (get_held es c.args.number) ∙ ap (λ m. map.get m c.args.number) c.self.view_is);
      },
    )
