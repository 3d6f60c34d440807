-- Lists of bytes and requests of bytes, by a test that is computed. Assumes nothing.
use Prim.Native.Nat.{ℕ}
use mathlib.Core.List.{List, [], ◌∷◌}
use mathlib.Core.Bool.{Bool, true, ◌&&◌}
use borrow.Author.Tests.{ltb-true}
use lib.Dec.{T, ltb}
use Rattle.lists.specs.Parts.{Bytes}
use Rattle.lists.proofs.Bytes.{Bytes_nil, Bytes_cons}
use Rattle.lists.proofs.Tests.{from_T, T_and_left, T_and_right}
use Rattle.store_model.specs.Words.{Sent}
use Rattle.store_model.specs.Claims.{SentBytes}

-- Each element is below 256.
abbrev pub below : List ℕ → Bool
below [] = true
below (b ∷ l) = ltb b 256 && below l

pub bytes_by_lem : (l : List ℕ) → T (below l) → Bytes l
bytes_by_lem [] t = Bytes_nil
bytes_by_lem (b ∷ l) t =
    Bytes_cons l (ltb-true b 256 (from_T (ltb b 256) (T_and_left (ltb b 256) (below l) t))) (bytes_by_lem l (T_and_right (ltb b 256) (below l) t))

pub sent_bytes : (s : Sent) → T (below s.command) → T (below s.lent) → SentBytes s
sent_bytes s t u = record { command = bytes_by_lem s.command t; lent = bytes_by_lem s.lent u }
