-- `put_fixed` puts the last digit behind the others, which are one less.
use Rattle.sentences.proofs.figures.+put_fixed.Given as goal

abbrev pub decreases-put_fixed : goal.decreases-put_fixed
decreases-put_fixed l = l.k
