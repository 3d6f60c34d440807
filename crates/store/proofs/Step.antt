-- What one request comes to, by the tests in the order of the table: the laws that the code of a step cites. Assumes nothing.
use Prim.Native.Nat.{ℕ, ◌-◌, ◌<◌, ◌≤◌}
use native.Mathlib.Omega.{arith}
use mathlib.Core.Path.{◌≡◌, refl, sym, ap, ◌∙◌}
use mathlib.Core.List.{List}
use mathlib.Core.Bool.{Bool, true, false}
use borrow.Author.Tests.{lt-ltb, ltb-false}
use lib.ListN.{length, take, drop, length-drop}
use lib.Seq.{take_all}
use lib.Dec.{ltb}
use Rattle.lists.specs.Parts.{splice}
use Rattle.lists.proofs.Tests.{to_T}
use Rattle.commands.specs.Command.{original, reads, reads_translation, well_formed}
use Rattle.commands.specs.Bytes.{fields_of, payload, formed}
use Rattle.lists.specs.Table.{first}
use Rattle.guard.specs.Judge.{editions_spent, entry_rows, judge_rows, raise, judged}
use Rattle.guard.specs.Replies.{read_length, replied, refused}
use Rattle.guard.specs.declared.Answer.{Answer}
use Rattle.commands.specs.declared.Command.{Command}
use Rattle.guard.specs.declared.Entry.{Entry}
use Rattle.guard.specs.declared.Judged.{Judged}
use Rattle.commands.proofs.CommandBytes.{language_within}
use Rattle.std.specs.Prelude.{Result, is_ok}
use Rattle.numbers.specs.declared.Refusal.{Refusal}
use Rattle.numbers.specs.Refusals.{number_of}
use Rattle.numbers.proofs.Refusals.{of_ok, of_err}
use Rattle.guard.proofs.Judge.{Accepted, accepted, accepted_none, judged_by, rows_formed}
use Rattle.lists.proofs.Table.{settled_new, settled_old}
use Rattle.image.proofs.Decode.{count_decode, card_decode, view_at}
use Rattle.store.specs.inner.Carried.{judged_at, carried}
use Rattle.store.specs.Runs.{numbers_of}
use Rattle.store_model.specs.Serve.{Outcome, card_of, entry_of, text_read, stepped, store_rows, serve_by, serve}
use Rattle.store_model.proofs.Formed.{formed_well}
use Rattle.formats.specs.Format.{Format, fixed}
use Rattle.image.specs.Bytes.{entry_at, count_of, room_of}
use Rattle.image.specs.Image.{view, Card, with_card, card_at, encode, decode, sound}

-- What a refusal with this answer leaves: image and reply buffer as they were.
abbrev pub refusal : Answer → List ℕ → List ℕ → Outcome
refusal a image reply = record { answer = a; image = image; reply = reply }

-- The three exit values of what a request leaves.
pub exits : {o : Outcome} {a a' : Answer} {i i' r r' : List ℕ} → o ≡ record { answer = a; image = i; reply = r } →
    a' ≡ a → i' ≡ i → r' ≡ r → (a' ≡ o.answer) × ((i' ≡ o.image) × (r' ≡ o.reply))
exits h p q t = rw h (p, (q, t))

-- The same as a contract says it.
pub serves : {o : Outcome} {a a' : Answer} {i i' r r' : List ℕ} → o ≡ record { answer = a; image = i; reply = r } →
    a' ≡ a → i' ≡ i → r' ≡ r → (numbers_of a' ≡ numbers_of o.answer) × ((i' ≡ o.image) × (r' ≡ o.reply))
serves h p q t = rw h (ap numbers_of p, (q, t))

-- The text that an accepted command reads fits the lent buffer.
read_fits : (e : Entry) (c : Command) (room lent : ℕ) → Accepted e c room lent → read_length e c ≤ lent
read_fits e c room lent h = go (reads original c) (reads_translation c) refl refl
  where
    go : (a b : Bool) → reads original c ≡ a → reads_translation c ≡ b → read_length e c ≤ lent
    go true b p q = rw p (ltb-false lent e.original (rw p at h.lends_original))
    go false true p q = rw (p, q) (ltb-false lent e.translation (rw q at h.lends_translation))
    go false false p q = rw (p, q) (omega arith)

module _ (f : Format) where
  -- ---- lent bytes as a command

  -- What stands behind its fixed part is its payload.
  pub behind_fixed : (bytes : List ℕ) → take (length bytes - fixed f) (drop (fixed f) bytes) ≡ payload f bytes
  unfolding payload
  behind_fixed bytes = take_all (length bytes - fixed f) (drop (fixed f) bytes) (rw length-drop (omega arith))

  -- ---- the number, by the tests

  module _ (image command : List ℕ) (lent : ℕ) where
    first_unsound : sound f image ≡ false → first (store_rows f image command lent) ≡ 9
    first_unsound e = rw e

    first_malformed : sound f image ≡ true → formed f command ≡ false → first (store_rows f image command lent) ≡ 1
    first_malformed e u = rw (e, u)

    first_no_card :
        sound f image ≡ true → formed f command ≡ true
        → ltb (fields_of f command).card (count_of image) ≡ false
        → first (store_rows f image command lent) ≡ 2
    first_no_card e u g = rw (e, u, count_decode f image, g)

    first_judged :
        sound f image ≡ true → formed f command ≡ true
        → ltb (fields_of f command).card (count_of image) ≡ true
        → first (store_rows f image command lent)
        ≡ first (judge_rows (entry_of f (decode f image) (fields_of f command)) (fields_of f command) (decode f image).room lent)
    first_judged e u g = rw (e, u, count_decode f image, g, formed_well f command u)

  -- ---- what a request leaves, by the tests

  module _ (image command reply : List ℕ) where
    pub serve_unsound : sound f image ≡ false → serve f image command reply ≡ refusal (refused 9) image reply
    unfolding serve serve_by replied
    serve_unsound e = rw (first_unsound image command (length reply) e)

    module _ (e : sound f image ≡ true) where
      pub serve_malformed : formed f command ≡ false → serve f image command reply ≡ refusal (refused 1) image reply
      unfolding serve serve_by replied
      serve_malformed u = rw (first_malformed image command (length reply) e u)

      module _ (u : formed f command ≡ true) where
        pub serve_no_card :
            ltb (fields_of f command).card (count_of image) ≡ false
            → serve f image command reply ≡ refusal (refused 2) image reply
        unfolding serve serve_by replied
        serve_no_card g = rw (first_no_card image command (length reply) e u g)

  module _ (image command reply : List ℕ) where
    serve_by_lem :
        (n : ℕ) → first (store_rows f image command (length reply)) ≡ n
        → serve f image command reply ≡ serve_by f n image command reply
    unfolding serve
    serve_by_lem n e = rw e

    -- What the judging entry's number leaves, for the card that the command names.
    by_judged :
        (card : Card) → card_of f (decode f image) (fields_of f command) ≡ card
        → card_at f image (fields_of f command).card ≡ card
        → entry_at f image (fields_of f command).card (fields_of f command).language ≡ view (fields_of f command).language card
        → serve_by f (first (judge_rows (view (fields_of f command).language card) (fields_of f command) (room_of image) (length reply))) image command reply
        ≡ carried f image (fields_of f command) (payload f command) reply
    unfolding serve_by judged carried
    by_judged card h g u = rw (h, g, u)

    pub serve_carried :
        sound f image ≡ true → formed f command ≡ true → (fields_of f command).card < count_of image
        → serve f image command reply ≡ carried f image (fields_of f command) (payload f command) reply
    unfolding decode card_at
    serve_carried e u g =
        serve_by_lem
        (first (judge_rows (view (fields_of f command).language (card_at f image (fields_of f command).card)) (fields_of f command) (room_of image) (length reply)))
        (first_judged image command (length reply) e u (lt-ltb (fields_of f command).card (count_of image) g)
        ∙ ap
        (λ (card : Card). first (judge_rows (view (fields_of f command).language card) (fields_of f command) (room_of image) (length reply)))
        (card_decode f image (fields_of f command).card g))
        ∙ by_judged (card_at f image (fields_of f command).card) (card_decode f image (fields_of f command).card g) refl
        (sym (view_at f image (to_T e) (fields_of f command).card g (fields_of f command).language (language_within f command u)))

    -- The same for a command and a payload that were found in the lent bytes.
    pub serve_found : {c : Command} {text : List ℕ} →
        sound f image ≡ true → formed f command ≡ true → c ≡ fields_of f command → text ≡ payload f command → c.card < count_of image
        → serve f image command reply ≡ carried f image c text reply
    serve_found e u p q h = rw (p, q) (serve_carried e u (rw p at h))

  -- ---- what a judged command leaves, by the outcome of its entry's rows

  module _ (image : List ℕ) (c : Command) (text reply : List ℕ) where
    abbrev stored : Entry
    stored = entry_at f image c.card c.language

    -- By the judgement.
    by_refusal : {j : Judged} → j ≡ judged_at f image c (length reply) → (j.number ≡ 0 → ⊥) → carried f image c text reply ≡ refusal (replied j.number j.entry c) image reply
    unfolding carried
    by_refusal {j} p h =
        rw (
          ← p,
          settled_old {n = j.number} (encode f (with_card c.card (stepped (card_at f image c.card) c text) (decode f image))) image h,
          settled_old {n = j.number} (splice 0 (text_read (card_at f image c.card) c) reply) reply h,
        )

    by_acceptance : {e : Entry} → ◌≡◌ {A = Judged} (record { number = 0; entry = e }) (judged_at f image c (length reply)) →
        carried f image c text reply
        ≡ record {
          answer = replied 0 e c;
          image = encode f (with_card c.card (stepped (card_at f image c.card) c text) (decode f image));
          reply = splice 0 (text_read (card_at f image c.card) c) reply;
        }
    unfolding carried
    by_acceptance p = rw (← p)

    -- For an entry, a room and an outcome that were found: what is asked of an accepted command, and what is left.
    pub record Accepting (e : Entry) : Type 0 where
      pub unspent : editions_spent e c ≡ false
      pub payload : c.length ≤ room_of image
      pub lent : read_length e c ≤ length reply
      pub left : carried f image c text reply ≡ record {
        answer = replied 0 (raise e c) c;
        image = encode f (with_card c.card (stepped (card_at f image c.card) c text) (decode f image));
        reply = splice 0 (text_read (card_at f image c.card) c) reply;
      }

    module _ {e : Entry} {room : ℕ} (p : e ≡ stored) (q : room ≡ room_of image) (w : well_formed c ≡ true) (o : Result Unit Refusal)
        (t : number_of o ≡ first (entry_rows e c room (length reply))) where
      by_table : number_of o ≡ first (judge_rows stored c (room_of image) (length reply))
      by_table = rw (← p, ← q) (t ∙ sym (rows_formed e c room (length reply) w))

      pub refuses : is_ok o ≡ false → {n : ℕ} → n ≡ number_of o → carried f image c text reply ≡ refusal (replied n e c) image reply
      refuses r n =
          rw (n, p) (by_refusal (judged_by stored c (room_of image) (length reply) by_table (sym (settled_old (raise stored c) stored (of_err o r)))) (of_err o r))

      passed : number_of o ≡ 0 → Accepted stored c (room_of image) (length reply)
      unfolding judged
      passed zero = accepted stored c (room_of image) (length reply) (sym by_table ∙ zero)

      pub accepts : is_ok o ≡ true → Accepting e
      accepts r =
          let zero : number_of o ≡ 0 = of_ok o r in
          let known = passed zero in
          record {
            unspent = rw p (accepted_none stored c (room_of image) (length reply) (sym by_table ∙ zero) 7);
            payload = known.length;
            lent = rw p (read_fits stored c (room_of image) (length reply) known);
            left = rw p (by_acceptance (judged_by stored c (room_of image) (length reply) (sym zero ∙ by_table) (sym (settled_new (raise stored c) stored refl))));
          }

-- The same for a place that was found to be the end of the fixed part.
pub behind_place : (f : Format) (bytes : List ℕ) {n : ℕ} → n ≡ fixed f → take (length bytes - n) (drop n bytes) ≡ payload f bytes
behind_place f bytes e = rw e (behind_fixed f bytes)
