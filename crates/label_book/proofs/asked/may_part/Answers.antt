use Rattle.std.proofs.Common.{◌∙◌, Some, sym, subst}
use Rattle.label_book.specs.Labels.{IsMember, EachOnce}
use Rattle.label_book.specs.Parting.{IsGrouped, AreEachOnce, AreApart}
use Rattle.label_book.proofs.Checks.{same_label}
use Rattle.label_book.proofs.asked.may_part.Goals as goal

pub returns : goal.returns
returns c t =
    let cores = c.as_slice-cores.ensures in
    let groups = c.as_slice.ensures in
    let are = c.are_groups.ensures in
    record {
      label_is = sym c.label_of.ensures.value ∙ same_label c.ne.result c.label_of.result (Some c.args.label) c.ne.ensures c.if-ne.false;
      lost_in = λ q m. c.have_label.ensures c.if-not-have_label.false q (subst (λ ys. IsMember ys q) (sym cores) m);
      lost_once = subst EachOnce cores (c.is_once.ensures c.if-not-is_once.false);
      grouped_in = λ q g. are.members t q (subst (λ gs. IsGrouped gs q) (sym groups) g);
      group_once = subst AreEachOnce groups (are.once t);
      apart = λ q m g. are.lost t q (subst (λ ys. IsMember ys q) (sym cores) m) (subst (λ gs. IsGrouped gs q) (sym groups) g);
      one_group = subst AreApart groups (are.one t);
    }
