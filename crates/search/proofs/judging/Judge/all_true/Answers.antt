-- The two passes are the judge's tests, which hold exactly of true labels.
use Rattle.search.specs.Lent.{labels_in}
use Rattle.search.proofs.RouteLaws.{book_judged}
use Rattle.search.proofs.judging.Judge.all_true.Goals as goal

pub returns : goal.returns
returns c =
    let self = c.args.self in
    rw c.requires
    (book_judged self.view.book.bytes.now self.view.book.counts self.view.book.good self.view.walks.now c.requires self.origin.0 (labels_in self.turns) (labels_in self.links) (self.turns_sized, self.links_sized) c.turns_stand.ensures (rw c.requires at c.links_stand.ensures))
