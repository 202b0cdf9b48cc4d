use Rattle.std.proofs.Common.{◌≡◌, ◌∙◌, ◌++◌, List, [], ◌∷◌, ap}
use Rattle.event_feed.specs.declared.tally.Tally.{Tally}
use Rattle.session_desk.proofs.Replies.{if-ok}
use Rattle.session_desk.proofs.Trials.{tally_told}
use Rattle.session_desk.proofs.trial.make_feed.Goals as goal

pub returns : goal.returns
returns c =
    let one : c.push.new.self.items ≡ c.new.result ∷ [] = c.in_ok-push.ensures.items ∙ ap (λ (l : List Tally). l ++ c.new.result ∷ []) c.in_ok-watchers.ensures.items in
    if-ok c.new-2.result _ _ c.new-2.ensures (λ feed are events. tally_told _ c.new.result c.push.new.self.items events _ one c.new.ensures are)
