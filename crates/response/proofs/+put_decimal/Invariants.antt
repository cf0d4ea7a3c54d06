-- What falls with each call and each turn, and what the loops keep. Assumes nothing.
use Rattle.response.proofs.+put_decimal.Given as goal

abbrev pub decreases-put_decimal : goal.decreases-put_decimal
decreases-put_decimal l =
    l.digits
