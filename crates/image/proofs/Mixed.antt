-- An entry with the numbers of another translation. Assumes nothing.
use Prim.Native.Nat.{ℕ, ◌≤◌}
use native.Mathlib.Omega.{arith}
use mathlib.Core.Path.{◌≡◌}
use mathlib.Core.Bool.{true}
use borrow.Author.Tests.{le-leb, leb-true}
use lib.Dec.{T, leb}
use Rattle.lists.specs.Table.{all, all_from}
use Rattle.lists.proofs.Tests.{from_T, to_T, all_out}
use Rattle.guard.specs.Entry.{entry_checks, entry_sound, FitsEntry}
use Rattle.guard.specs.declared.Entry.{Entry}

-- An entry with the translated-from and the length of the translation of another.
abbrev pub mixed : Entry → Entry → Entry
mixed old new =
    record { pair = new.pair; mark = new.mark; edition = new.edition; from = old.from; original = new.original; translation = old.translation }

-- Such an entry keeps the rules, and the widths of its fields, if both do and the edition did not fall.
pub mixed_fits : {old new : Entry} → FitsEntry old → FitsEntry new → FitsEntry (mixed old new)
mixed_fits a b =
    record { pair = b.pair; mark = b.mark; edition = b.edition; from = a.from; original = b.original; translation = a.translation }

pub mixed_sound : (room : ℕ) (old new : Entry) → T (entry_sound room old) → T (entry_sound room new) → old.edition ≤ new.edition → T (entry_sound room (mixed old new))
unfolding entry_sound all all_from
mixed_sound room old new a b h =
    let was = all_out (entry_checks room old) (from_T (all (entry_checks room old)) a) in
    let is = all_out (entry_checks room new) (from_T (all (entry_checks room new)) b) in
    let from : leb old.from new.edition ≡ true = le-leb old.from new.edition (omega (arith, leb-true old.from old.edition (was 5))) in
    let holds : all (entry_checks room (mixed old new)) ≡ true = rw (is 0, is 1, is 2, is 3, was 4, from, is 6, was 7) in
    to_T holds
