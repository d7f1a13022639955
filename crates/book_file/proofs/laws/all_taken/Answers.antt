use Rattle.book_file.proofs.TakenLemmas.{all_taken}
use Rattle.book_file.proofs.laws.all_taken.Goals as goal

pub returns : goal.returns
returns c loaded loads = all_taken c.args.net.now c.args.book.now loaded c.is_net.ensures c.requires loads
