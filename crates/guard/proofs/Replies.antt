-- Laws of the reply fields. Assumes nothing.
use Prim.Native.Nat.{ℕ}
use mathlib.Core.Path.{◌≡◌, refl, subst}
use mathlib.Core.Bool.{true}
use Rattle.lists.proofs.Tests.{never_both}
use Rattle.lists.proofs.Table.{settled_old}
use Rattle.commands.specs.declared.Command.{Command}
use Rattle.guard.specs.declared.Entry.{Entry}
use Rattle.guard.specs.Replies.{blank_reply, read_length, replied, refused}

-- The reply fields of the numbers that show none of the entry.
pub replied_blank : (n : ℕ) (e : Entry) (c : Command) → blank_reply n ≡ true → replied n e c ≡ refused n
unfolding replied
replied_blank n e c b = rw (b, settled_old {n = n} (read_length e c) 0 (λ z. never_both (subst (λ (k : ℕ). blank_reply k ≡ true) z b) refl))
