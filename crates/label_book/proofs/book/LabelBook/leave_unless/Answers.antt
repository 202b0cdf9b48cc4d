use Rattle.label_book.proofs.Parted.{core_left}
use Rattle.label_book.proofs.book.LabelBook.leave_unless.Goals as goal

pub returns : goal.returns
returns c = core_left c.args.self.now c.leave_member.new.self c.args.core c.args.label c.if-core-label.false c.leave_member.ensures
