use Rattle.std.proofs.Common.{◌≡◌, Bool, true, false, IsTrue, sym, subst, ◌∙◌, arith, ap}
use Rattle.std.proofs.lemmas.Result.{err_from_is_err_and}
use Rattle.session_desk.specs.Lines.{Reading, HasSource}
use Rattle.session_desk.proofs.Skipped.{skips_on, too_much, unfinished_here, answered, over_size, over_front, Goes, goes_skipped, goes_on, failed_fill, ended_apart, over_limit, within_room, within}
use Rattle.session_desk.proofs.lines.LineReader.read_line.Goals as goal
use Rattle.session_desk.proofs.lines.LineReader.read_line.Goals.{then-skip_long, else-skip_long}

pub returns-then-is_over-clause-told : goal.returns-then-is_over-clause-told
returns-then-is_over-clause-told g c = λ tells source.
    let held = c.has_line.ensures.held in
    let none = sym c.pieces-test.ensures.line in
    too_much _ _ _ _ _ (c.pieces.invariant.skips tells source) (over_size c.pieces.self held none (sym c.if-is_over.ensures)) (over_front c.pieces.self held none (sym c.if-is_over.ensures))

pub pieces-preserved : goal.pieces-preserved
pieces-preserved g c =
    let before = g.S.Source.left c.args.source.now in
    let left = g.S.Source.left c.pieces.source in
    let held = c.has_line.ensures.held in
    let none = sym c.pieces-test.ensures.line in
    let goes : IsTrue g.S.Source.tells → HasSource c.args.self.now before → Goes c.if-skip_long.long c.args.self.now before c.skip_long.new.self left = λ tells source.
    let skips = c.pieces.invariant.skips tells source in
    elim c.if-skip_long.branch [
      | then-skip_long w ↦
          subst (λ (long : Bool). Goes long c.args.self.now before c.skip_long.new.self left) (sym w.long-is) (goes_skipped _ _ _ _ _ skips held none (sym c.if-is_over.ensures) _ w.if-skip_long.ensures.long w.if-skip_long.ensures.given)
      | else-skip_long w ↦ subst (λ (long : Bool). Goes long c.args.self.now before c.skip_long.new.self left) (sym w.long-is) (goes_on _ _ _ _ _ skips held none (sym c.if-is_over.ensures) _ w.if-skip_long.ensures.given)
    ] in
    let apart : c.args.self.now.ended ≡ true → ⊥ = λ e. ended_apart c.pieces.self held none (ap (λ (r : Reading). r.ended) (c.pieces.invariant.still e) ∙ e) in
    record {
      later = omega (arith, c.pieces.invariant.later, c.in_ok-fill.ensures.later);
      still = λ e. absurd (apart e);
      begun = λ e. absurd (apart e);
      same = λ off. elim c.if-skip_long.branch [
        | then-skip_long w ↦ let bad : true ≡ false = sym w.long-is ∙ off in absurd (cc)
        | else-skip_long w ↦ c.in_ok-fill.ensures.room ∙ ap (λ (r : Reading). r.room) w.if-skip_long.ensures.given ∙ c.pieces.invariant.same (sym w.long-is ∙ off)
      ];
      less = λ on. elim c.if-skip_long.branch [
        | then-skip_long w ↦ omega (
          arith,
          c.in_ok-fill.ensures.room,
          ap (λ (r : Reading). r.room) w.if-skip_long.ensures.given,
          within c.pieces.long c.args.self.now c.pieces.self c.pieces.self c.pieces.invariant.same c.pieces.invariant.less,
          over_limit c.pieces.self w.if-skip_long.ensures.long,
          within_room c.pieces.self held none (sym c.if-is_over.ensures),
        )
        | else-skip_long w ↦ omega (arith, c.in_ok-fill.ensures.room, ap (λ (r : Reading). r.room) w.if-skip_long.ensures.given, c.pieces.invariant.less (sym w.long-is ∙ on))
      ];
      skips = λ tells source. skips_on _ _ _ _ _ (goes tells source).skips _ _ (c.in_ok-fill.ensures.told tells) c.in_ok-fill.ensures.room;
      source = λ tells source. (c.in_ok-fill.ensures.told tells).end;
    }

pub returns-in_err-fill-clause-told : goal.returns-in_err-fill-clause-told
returns-in_err-fill-clause-told g c = λ tells source.
    let before = g.S.Source.left c.args.source.now in
    let left = g.S.Source.left c.pieces.source in
    let held = c.has_line.ensures.held in
    let none = sym c.pieces-test.ensures.line in
    let skips = c.pieces.invariant.skips tells source in
    let goes : Goes c.if-skip_long.long c.args.self.now before c.skip_long.new.self left = elim c.if-skip_long.branch [
      | then-skip_long w ↦
          subst (λ (long : Bool). Goes long c.args.self.now before c.skip_long.new.self left) (sym w.long-is) (goes_skipped _ _ _ _ _ skips held none (sym c.if-is_over.ensures) _ w.if-skip_long.ensures.long w.if-skip_long.ensures.given)
      | else-skip_long w ↦ subst (λ (long : Bool). Goes long c.args.self.now before c.skip_long.new.self left) (sym w.long-is) (goes_on _ _ _ _ _ skips held none (sym c.if-is_over.ensures) _ w.if-skip_long.ensures.given)
    ] in
    let said = failed_fill _ _ _ _ _ goes c.fill.new.self (g.S.Source.left c.fill.new.source) c.in_err-fill.field-0.0 (c.in_err-fill.ensures.told tells) in
    let p = err_from_is_err_and c.from_residual.result c.from_residual.ensures.1 in
    rw (p.1, p.2) said

pub returns-in-Ok-clause-told : goal.returns-in-Ok-clause-told
returns-in-Ok-clause-told g c = λ tells source. answered _ _ _ _ _ (c.pieces.invariant.skips tells source) (c.pieces.invariant.source tells source) _ _ c.in-Ok.ensures.ok

pub returns-in-Err-clause-told : goal.returns-in-Err-clause-told
returns-in-Err-clause-told g c = λ tells source. unfinished_here _ _ _ _ _ (c.pieces.invariant.skips tells source) c.has_line.ensures.held
