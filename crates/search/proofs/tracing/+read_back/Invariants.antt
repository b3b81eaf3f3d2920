-- Each link that is read back leaves one link less.
use Rattle.search.proofs.tracing.+read_back.Given as goal

abbrev pub decreases-read_back : goal.decreases-read_back
decreases-read_back l = l.links
