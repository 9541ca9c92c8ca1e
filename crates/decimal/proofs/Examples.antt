-- Numbers written and read, computed. Assumes nothing.
use mathlib.Core.Path.{◌≡◌, refl}
use Rattle.std.specs.Prelude.{[], Some, None, codes}
use Rattle.decimal.specs.Decimal.{spell, decimal}
use Rattle.decimal.specs.Strip.{goes_on, strip_more, strip_decimal}

-- the greatest number of 64 bits has twenty digits
pub greatest_written : decimal 18446744073709551615 ≡ codes "18446744073709551615"
unfolding decimal spell
greatest_written = refl

-- the comma is left
pub zero_read : strip_decimal 255 (codes "0,") ≡ Some (0, codes ",")
unfolding strip_decimal strip_more
zero_read = refl

pub most_read : strip_decimal 255 (codes "255") ≡ Some (255, [])
unfolding strip_decimal strip_more goes_on
most_read = refl

pub more_unread : strip_decimal 255 (codes "256") ≡ None
unfolding strip_decimal strip_more goes_on
more_unread = refl

pub zero_leads : strip_decimal 255 (codes "07") ≡ None
unfolding strip_decimal strip_more goes_on
zero_leads = refl

pub greatest_read : strip_decimal 18446744073709551615 (codes "18446744073709551615") ≡ Some (18446744073709551615, [])
unfolding strip_decimal strip_more goes_on
greatest_read = refl
