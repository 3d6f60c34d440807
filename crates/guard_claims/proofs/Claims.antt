-- The claims on judging and on commands in bytes. Assumes nothing.
use Prim.Native.Nat.{ℕ, zero, suc, ◌+◌, ◌≤◌}
use native.Mathlib.Omega.{arith}
use mathlib.Core.Path.{◌≡◌, refl, sym, subst}
use mathlib.Core.Bool.{true, false}
use mathlib.Core.Logic.{◌⊎◌, inl, inr}
use lib.Dec.{T, T_not, eqb}
use lib.ListN.{length}
use borrow.Author.Tests.{ne_eqb}
use Rattle.lists.proofs.Tests.{to_T, from_T, from_false, cases}
use Rattle.stamps.specs.Stamp.{stamp_t, most_ahead}
use Rattle.commands.specs.Command.{well_formed}
use Rattle.commands.specs.Bytes.{extent, formed, fields_of}
use Rattle.formats.specs.Format.{V1, V2}
use Rattle.guard.specs.Entry.{entry_sound, FitsEntry}
use Rattle.guard.specs.Judge.{raise, judged}
use Rattle.guard_claims.specs.Claims.{Judges, StaleStays, Parsing, Parses, CommandComesBack, BytesComeBack, OneCommandVersion}
use Rattle.commands.specs.declared.Command.{Command}
use Rattle.guard.specs.declared.Entry.{Entry}
use Rattle.stamps.proofs.Stamp.{stale_more}
use Rattle.guard.proofs.Judge.{Accepted, exactly, accepted_exactly, accepted, refusal_leaves, accepted_raises, accepted_mode, raise_more, raise_near}
use Rattle.guard.proofs.Raise.{raise_sound, raise_fits}
use Rattle.commands.proofs.CommandBytes.{parsed_formed, parsed_malformed, payload_command, parsed_command_lem, formedness, command_fields}

-- What holds of the entry as it was and, where the command is accepted, of the raised one, holds of the entry as it now is.
judged_keeps : (P : Entry → Type 0) (e : Entry) (c : Command) (room lent : ℕ) → P e → (Accepted e c room lent → P (raise e c)) → P (judged e c room lent).entry
judged_keeps P e c room lent p q = go (judged e c room lent).number refl
  where
    go : (n : ℕ) → (judged e c room lent).number ≡ n → P (judged e c room lent).entry
    go zero h = subst P (sym (accepted_raises e c room lent h)) (q (accepted e c room lent h))
    go (suc n) h = subst P (sym (refusal_leaves e c room lent n h)) p

pub judges : Judges
judges e c room lent =
    record {
      each = exactly e c room lent;
      accepts = accepted_exactly e c room lent;
      leaves = refusal_leaves e c room lent;
      raises = accepted_raises e c room lent;
      formed = λ h. to_T (accepted e c room lent h).formed;
      mode = λ h. accepted_mode e c room lent (accepted e c room lent h);
      fresh = λ h. (accepted e c room lent h).fresh;
      near = λ h. (accepted e c room lent h).near;
      sound = λ s. judged_keeps (λ d. T (entry_sound room d)) e c room lent s (λ a. raise_sound a s);
      fits = λ f g. judged_keeps FitsEntry e c room lent f (λ a. raise_fits a f g);
      grows = judged_keeps (λ d. (e.pair.s ≤ d.pair.s) × (e.pair.x ≤ d.pair.x)) e c room lent (omega arith) (λ a. raise_more e c);
      bounded =
          judged_keeps
          (λ d. (stamp_t d.pair.s ≤ stamp_t e.pair.s + most_ahead) × (stamp_t d.pair.x ≤ stamp_t e.pair.x + most_ahead))
          e c room lent (omega arith) (λ a. raise_near a);
    }

pub stale_stays : StaleStays
stale_stays mode stored more new hs hx t = stale_more mode new hs hx t

pub parses : Parses
parses f bytes = go (cases (formed f bytes))
  where
    go : (formed f bytes ≡ true) ⊎ (formed f bytes ≡ false) → Parsing f bytes
    go (inl h) =
        record {
          number = rw (parsed_formed f bytes h, h);
          numbers = λ t. rw (parsed_formed f bytes h);
          blanks = λ t. absurd (T_not (formed f bytes) t (to_T h));
        }
    go (inr h) =
        record {
          number = rw (parsed_malformed f bytes h, h);
          numbers = λ t. absurd (from_false h t);
          blanks = λ t. rw (parsed_malformed f bytes h);
        }

pub command_comes_back : CommandComesBack
command_comes_back f c text g h w l = (parsed_command_lem c text f g h (from_T (well_formed c) w) l, payload_command c text f)

pub bytes_come_back : BytesComeBack
bytes_come_back f bytes h t = command_fields f bytes h (from_T (formed f bytes) t)

pub one_command_version : OneCommandVersion
unfolding formed fields_of
one_command_version bytes holds =
    let long : length bytes ≡ extent V2 bytes = (formedness V2 bytes (from_T (formed V2 bytes) holds)).whole in
    let other : eqb (length bytes) (extent V1 bytes) ≡ false = ne_eqb (length bytes) (extent V1 bytes) (λ e. omega arith) in
    rw other
