-- It ends since n / BASE is below n.
use Rattle.text.proofs.number.+write_digits.Given as goal

abbrev pub decreases-write_digits : goal.decreases-write_digits
decreases-write_digits g l = l.n
