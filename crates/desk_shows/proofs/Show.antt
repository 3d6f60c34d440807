-- What a desk shows: the steps of `shown`. Assumes nothing.
use Prim.Native.Nat.{ℕ, ◌≤◌}
use mathlib.Core.Path.{◌≡◌}
use mathlib.Core.Bool.{Bool, false, ◌||◌}
use borrow.Author.Tests.{ltb-false}
use lib.ListN.{length, take}
use Rattle.lists.proofs.Tests.{or_fails}
use Rattle.lists.specs.Table.{first, settled}
use Rattle.lists.proofs.Table.{unapplied, none_applies}
use Rattle.desk_shows.specs.Show.{Text, of, beyond, show_rows, shown_number, shown_part}
use Rattle.desk_shows.specs.declared.Asked.{Asked}
use Rattle.desk_shows.specs.declared.Asked.TheVariants.{Original, Translation}

-- Where nothing is refused, no length is beyond its buffer.
none_long : (long late : Bool) → first (show_rows long late) ≡ 0 → long ≡ false
none_long long late e = none_applies (show_rows long late) ((unapplied (show_rows long late) tt).0 e) 8

pub fits : (l : Asked) (o t : Text) (late : Bool) → first (show_rows (beyond o || beyond t) late) ≡ 0 → (of l o t).length ≤ length (of l o t).buffer
fits l o t late e = go l (or_fails (beyond o) (beyond t) (none_long (beyond o || beyond t) late e))
  where
    go : (l : Asked) → (beyond o ≡ false) × (beyond t ≡ false) → (of l o t).length ≤ length (of l o t).buffer
    go Original h = ltb-false (length o.buffer) o.length h.0
    go Translation h = ltb-false (length t.buffer) t.length h.1

-- What goes by the number, for the language that was asked for.
pub settles : (o t : Text) (edition from n : ℕ) (asked l : Asked) → asked ≡ l → n ≡ shown_number o t edition from asked →
    take (settled n (of l o t).length 0) (of l o t).buffer ≡ shown_part o t edition from asked
settles o t edition from n asked l e k = rw (k, e)
