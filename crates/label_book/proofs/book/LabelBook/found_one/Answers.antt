use Rattle.label_book.proofs.Parted.{founded_one}
use Rattle.label_book.proofs.book.LabelBook.found_one.Goals as goal

pub returns : goal.returns
returns c =
    founded_one c.args.self.now c.found.new.self c.args.group.now c.args.labels.now c.push.new.self c.in_ok-label.label c.in_ok-label.ensures.label c.in_ok-label.ensures.ok c.in_ok-push.ensures.ok
