-- Bounds of the numbers of every version. Assumes nothing.
use Prim.Native.Nat.{◌+◌, ◌*◌, ◌≤◌, ◌<◌}
use lib.Dec.{lit≤, lit<}
use Rattle.formats.specs.Format.{Format, V1, V2, translations, entry_size, original_at, froms_at, lengths_at, fixed, update_at, blank_at}

pub record Numbers (f : Format) : Type 0 where
  pub some : 0 < translations f
  pub most : translations f ≤ 4
  pub least_entry : 26 ≤ entry_size f
  pub most_entry : entry_size f ≤ 48
  pub original : original_at f + 2 ≤ entry_size f
  pub froms : froms_at f + 2 * translations f ≤ entry_size f
  pub lengths : lengths_at f + 2 * translations f ≤ entry_size f
  pub least_fixed : 52 ≤ fixed f
  pub most_fixed : fixed f ≤ 68
  pub update : update_at f + 16 ≤ fixed f
  pub blank : blank_at f ≤ 36

pub numbers : (f : Format) → Numbers f
numbers V1 =
    record {
      some = lit< tt;
      most = lit≤ tt;
      least_entry = lit≤ tt;
      most_entry = lit≤ tt;
      original = lit≤ tt;
      froms = lit≤ tt;
      lengths = lit≤ tt;
      least_fixed = lit≤ tt;
      most_fixed = lit≤ tt;
      update = lit≤ tt;
      blank = lit≤ tt;
    }
numbers V2 =
    record {
      some = lit< tt;
      most = lit≤ tt;
      least_entry = lit≤ tt;
      most_entry = lit≤ tt;
      original = lit≤ tt;
      froms = lit≤ tt;
      lengths = lit≤ tt;
      least_fixed = lit≤ tt;
      most_fixed = lit≤ tt;
      update = lit≤ tt;
      blank = lit≤ tt;
    }
