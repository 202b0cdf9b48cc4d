use Rattle.std.proofs.Common.{◌≡◌, ◌+◌, ℕ, List, length, take, min, ap, subst, ◌∙◌, inl, inr, arith}
use Rattle.session_desk.specs.Filling.{IsLineOf}
use Rattle.session_desk.proofs.LineParts.{line_len, line_len-le, given_is, long_given, whole_given}
use Rattle.session_desk.proofs.lines.LineReader.give_line.Goals as goal
use Rattle.session_desk.proofs.lines.LineReader.give_line.Goals.{then-long-via-then-long, then-long-via-else-long+then-length-gt-LINE_LIMIT}

pub overflow_add-length : goal.overflow_add-length
overflow_add-length c =
    let size : c.line_length-length.result ≡ line_len c.args.self.now.pending = c.line_length-length.ensures ∙ ap line_len c.pending-pending.ensures in
    omega (arith, size, line_len-le c.args.self.now.pending)

pub returns-then-long-clause-ok : goal.returns-then-long-clause-ok
returns-then-long-clause-ok c =
    let r = c.args.self.now in
    let size : c.line_length-length.result ≡ line_len r.pending = c.line_length-length.ensures ∙ ap line_len c.pending-pending.ensures in
    let new = given_is r c.requires.held c.requires.line c.line_length-length.result c.min-used.result c.pending-pending.result.now c.give.new.self c.pending-pending.ensures c.line_length-length.ensures c.min-used.ensures c.give.ensures in
    long_given r c.requires.held c.requires.line c.args.long c.give.new.self new (elim c.then-long.branch [
      | then-long-via-then-long w ↦ inl w.if-long.true
      | then-long-via-else-long+then-length-gt-LINE_LIMIT w ↦ inr (omega (arith, size, w.if-length-gt-LINE_LIMIT.true))
    ])

pub returns-clause-ok : goal.returns-clause-ok
returns-clause-ok c =
    let r = c.args.self.now in
    let size : c.line_length-length.result ≡ line_len r.pending = c.line_length-length.ensures ∙ ap line_len c.pending-pending.ensures in
    let new = given_is r c.requires.held c.requires.line c.line_length-length.result c.min-used.result c.pending-pending.result.now c.give-2.new.self c.pending-pending.ensures c.line_length-length.ensures c.min-used.ensures c.give-2.ensures in
    let copied = subst (λ (raw : List ℕ). IsLineOf raw c.in_ok-line.line) (ap (λ (n : ℕ). take n c.pending-pending.result.now) size ∙ ap (take (line_len r.pending)) c.pending-pending.ensures) c.in_ok-line.ensures in
    let used = c.min-used.ensures ∙ ap (λ (n : ℕ). min (n + 1) (length c.pending-pending.result.now)) size ∙ ap (λ (bs : List ℕ). min (line_len r.pending + 1) (length bs)) c.pending-pending.ensures in
    whole_given r c.requires.held c.requires.line c.in_ok-line.line c.args.long c.give-2.new.self copied new c.if-long.false (omega (arith, size, c.if-length-gt-LINE_LIMIT.false)) (omega (arith, used, c.if-used-eq0.false))
