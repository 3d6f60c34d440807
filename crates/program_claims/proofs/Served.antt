-- The program on a good store: the image stays sound and the reply buffer keeps its C bytes, so that no command is answered 9 or 8.
-- Assumes nothing.
use Prim.Native.Nat.{ℕ, zero, suc, ◌+◌, ◌≤◌, ◌<◌}
use native.Mathlib.Omega.{arith}
use mathlib.Core.Path.{◌≡◌, refl, sym, subst, ◌∙◌}
use mathlib.Core.Logic.{◌⊎◌, inl, inr}
use mathlib.Core.List.{List, [], ◌∷◌}
use mathlib.Core.Bool.{Bool, true, false, not, ◌&&◌, ◌||◌}
use borrow.Author.Tests.{ne_eqb, ltb-true, not-true}
use lib.Dec.{T, eqb, ltb, lit<}
use lib.ListN.{length, take, drop, replicate, length-replicate}
use Rattle.formats.specs.Format.{V1, translations}
use Rattle.lists.specs.Parts.{Bytes}
use Rattle.lists.proofs.Bytes.{Bytes_take, Bytes_drop, Bytes_replicate}
use Rattle.lists.proofs.Parts.{length_splice}
use Rattle.lists.proofs.Table.{given, first_all}
use Rattle.lists.proofs.Tests.{to_T, from_T, cases, or_none, or_cases, and_right, not_in}
use Rattle.commands.specs.Command.{original, reads_translation, reads}
use Rattle.commands.specs.Bytes.{fields_of, formed}
use Rattle.commands.specs.declared.Command.{Command}
use Rattle.guard.specs.declared.Answer.{Answer}
use Rattle.image.specs.Bytes.{room_of}
use Rattle.image.specs.Image.{Cards, encode, decode, sound}
use Rattle.image.specs.Image.{GoodCards}
use Rattle.image.proofs.Bytes.{Lengths, lengths}
use Rattle.image_claims.proofs.Claims.{sound_reads_back, good_encodes}
use Rattle.image.proofs.Decode.{room_decode}
use Rattle.store_model.specs.Serve.{serve, card_of, entry_of, request_rows, text_read, reply_by}
use Rattle.store_model.specs.Words.{Sent}
use Rattle.lists.specs.Search.{any, none}
use Rattle.store_model.proofs.Machine.{number_on, cards_by, passed}
use Rattle.store_model.proofs.Simulation.{good_more}
use Rattle.stream.specs.Stream.{commands}
use Rattle.image.specs.Image.{claimed}
use Rattle.store.specs.Runs.{runs}
use Rattle.image.proofs.InFront.{good_front_lem}
use Rattle.program_claims.specs.Claims.{Serves}
use Rattle.program_claims.proofs.Requests.{EachBytes, each_bytes, stored, of_text, reply_bytes, answers_by, replies_by, leaves_by}

-- ---- one request, with a reply buffer of C bytes

-- Cards by the rules, and a reply buffer of bytes, as many as a text may have.
record Fit (cs : Cards) (reply : List ℕ) : Type 0 where
  good : GoodCards V1 cs
  bytes : Bytes reply
  long : length reply ≡ cs.room

module _ (cs : Cards) (command reply : List ℕ) (fit : Fit cs reply) where
  abbrev sent : Sent
  sent = record { command = command; lent = reply }

  abbrev asked : Command
  asked = fields_of V1 command

  abbrev number : ℕ
  number = number_on V1 cs sent

  not_9 : number ≡ 9 → ⊥
  not_9 e = subst (λ (n : ℕ). T (not (eqb n 9))) e (first_all (λ n. not (eqb n 9)) (request_rows V1 cs command (length reply)) tt tt)

  named : asked.language < translations V1
  unfolding fields_of
  named = lit< tt

  module _ (there : ltb asked.card (length cs.cards) ≡ true) where
    within : Lengths cs.room (entry_of V1 cs asked)
    within = lengths cs.room (entry_of V1 cs asked) (from_T _ ((stored V1 cs command reply fit.good there).rules asked.language named))

    never_original : (reads original asked && ltb (length reply) (entry_of V1 cs asked).original) ≡ true → ⊥
    never_original o =
        let h = ltb-true (length reply) (entry_of V1 cs asked).original (and_right (reads original asked) (ltb (length reply) (entry_of V1 cs asked).original) o) in
        omega (arith, h, within.original, fit.long)

    never_translation : (reads_translation asked && ltb (length reply) (entry_of V1 cs asked).translation) ≡ true → ⊥
    never_translation o =
        let h = ltb-true (length reply) (entry_of V1 cs asked).translation (and_right (reads_translation asked) (ltb (length reply) (entry_of V1 cs asked).translation) o) in
        omega (arith, h, within.translation, fit.long)

  -- A command for no card is answered 1 or 2.
  away : (b : Bool) → formed V1 command ≡ b → ltb asked.card (length cs.cards) ≡ false → number ≡ 8 → ⊥
  away false f h e = let wrong : ◌≡◌ {A = ℕ} 1 8 = rw f at e in omega (arith, wrong)
  away true f h e = let wrong : ◌≡◌ {A = ℕ} 2 8 = rw (f, h) at e in omega (arith, wrong)

  not_8 : number ≡ 8 → ⊥
  not_8 e = go (cases (ltb asked.card (length cs.cards)))
    where
      short : ((reads original asked && ltb (length reply) (entry_of V1 cs asked).original) || (reads_translation asked && ltb (length reply) (entry_of V1 cs asked).translation)) ≡ true
      short = from_T _ ((given (request_rows V1 cs command (length reply)) tt 7).0 e).0

      over : ltb asked.card (length cs.cards) ≡ true
          → ((reads original asked && ltb (length reply) (entry_of V1 cs asked).original) ≡ true) ⊎ ((reads_translation asked && ltb (length reply) (entry_of V1 cs asked).translation) ≡ true) → ⊥
      over there (inl o) = never_original there o
      over there (inr o) = never_translation there o

      go : (ltb asked.card (length cs.cards) ≡ true) ⊎ (ltb asked.card (length cs.cards) ≡ false) → ⊥
      go (inl there) =
          over there
          (or_cases (reads original asked && ltb (length reply) (entry_of V1 cs asked).original) (reads_translation asked && ltb (length reply) (entry_of V1 cs asked).translation) short)
      go (inr h) = away (formed V1 command) refl h e

  fit_by : Bytes command → (n : ℕ) → number ≡ n → Fit (cards_by V1 n cs sent) (reply_by V1 n cs command reply)
  fit_by bytes zero e =
      let there = (passed V1 cs sent e).exists in
      let short : 0 + length (text_read (card_of V1 cs asked) asked) ≤ length reply =
      of_text V1 cs command reply fit.good (λ (t : List ℕ). 0 + length t ≤ length reply)
      (omega (arith, (within there).original, fit.long))
      (omega (arith, (within there).translation, fit.long))
      (omega arith) in
      record {
        good = good_more V1 cs sent fit.good (record { command = bytes; lent = fit.bytes }) zero e;
        bytes = reply_bytes V1 cs command reply fit.good fit.bytes zero e;
        long = length_splice 0 (text_read (card_of V1 cs asked) asked) reply short ∙ fit.long;
      }
  fit_by bytes (suc j) e = record { good = fit.good; bytes = fit.bytes; long = fit.long }

-- ---- a run

-- What a run from an image with a reply buffer keeps.
record Kept (image reply : List ℕ) (cs : List (List ℕ)) : Type 0 where
  no_9 : none (λ (a : Answer). eqb a.number 9) (runs V1 image reply cs).answers ≡ true
  no_8 : none (λ (a : Answer). eqb a.number 8) (runs V1 image reply cs).answers ≡ true
  stays : sound V1 (runs V1 image reply cs).image ≡ true

none_more : {A : Type 0} (p : A → Bool) (a : A) (l : List A) → p a ≡ false → none p l ≡ true → none p (a ∷ l) ≡ true
none_more p a l h n = not_in (or_none h (not-true (any p l) n))

kept : (cards : Cards) (reply : List ℕ) (cs : List (List ℕ)) → Fit cards reply → EachBytes cs → Kept (encode V1 cards) reply cs
unfolding runs
kept cards reply [] fit b =
    record { no_9 = refl; no_8 = refl; stays = from_T (sound V1 (encode V1 cards)) (good_encodes V1 cards fit.good).sounds }
kept cards reply (c ∷ cs) fit b =
    let s : Sent = record { command = c; lent = reply } in
    let n : ℕ = number_on V1 cards s in
    let later : Kept (serve V1 (encode V1 cards) c reply).image (serve V1 (encode V1 cards) c reply).reply cs =
    rw (leaves_by V1 cards c reply fit.good, replies_by V1 cards c reply fit.good)
    (kept (cards_by V1 n cards s) (reply_by V1 n cards c reply) cs (fit_by cards c reply fit b.0 n refl) b.1) in
    let answer = (serve V1 (encode V1 cards) c reply).answer in
    let rest = (runs V1 (serve V1 (encode V1 cards) c reply).image (serve V1 (encode V1 cards) c reply).reply cs).answers in
    record {
      no_9 =
          none_more (λ (a : Answer). eqb a.number 9) answer rest
          (ne_eqb answer.number 9 (λ e. not_9 cards c reply fit (sym (answers_by V1 cards c reply fit.good) ∙ e)))
          later.no_9;
      no_8 =
          none_more (λ (a : Answer). eqb a.number 8) answer rest
          (ne_eqb answer.number 8 (λ e. not_8 cards c reply fit (sym (answers_by V1 cards c reply fit.good) ∙ e)))
          later.no_8;
      stays = later.stays;
    }

-- ---- the claim

pub serves : Serves
serves input b g =
    let f = good_front_lem input g in
    let image : List ℕ = take (claimed input) input in
    let back = sound_reads_back V1 image (Bytes_take (claimed input) input b) (to_T f.sounds) in
    let fit : Fit (decode V1 image) (replicate (room_of input) 0) =
    record {
      good = back.good;
      bytes = Bytes_replicate (room_of input) (omega arith);
      long = length-replicate (room_of input) 0 ∙ sym (room_decode V1 image ∙ f.same);
    } in
    let k : Kept image (replicate (room_of input) 0) (commands V1 (drop (claimed input) input)) =
    subst (λ (i : List ℕ). Kept i (replicate (room_of input) 0) (commands V1 (drop (claimed input) input))) back.same
    (kept (decode V1 image) (replicate (room_of input) 0) (commands V1 (drop (claimed input) input)) fit
    (each_bytes V1 (drop (claimed input) input) (Bytes_drop (claimed input) input b))) in
    record { never_9 = rw f.size k.no_9; never_8 = rw f.size k.no_8; stays = rw f.size k.stays }
