-- The requests of a run are bytes, so demand 3 speaks of it. Assumes nothing.
use Prim.Native.Nat.{ℕ, zero, suc, ◌/◌}
use mathlib.Core.Path.{◌≡◌, refl, subst, ap}
use mathlib.Core.List.{List, [], ◌∷◌}
use mathlib.Core.Bool.{Bool, true, false, cond}
use borrow.Author.Tests.{ltb-true}
use lib.Dec.{ltb}
use lib.ListN.{length, take, drop}
use Rattle.formats.specs.Format.{Format}
use Rattle.lists.specs.Parts.{Bytes}
use Rattle.lists.proofs.Bytes.{Bytes_nil, Bytes_take, Bytes_drop, Bytes_splice}
use Rattle.commands.specs.Command.{original, translation, reads_translation, reads}
use Rattle.commands.specs.Bytes.{fields_of, extent}
use Rattle.commands.specs.declared.Command.{Command}
use Rattle.guard.specs.Replies.{replied}
use Rattle.image.specs.Image.{Cards, text, encode, fresh}
use Rattle.image.specs.Image.{GoodCard, GoodCards, fresh_cards}
use Rattle.image_claims.proofs.Claims.{fresh_sound}
use Rattle.store_model.specs.Serve.{serve, card_of, text_read, reply_by}
use Rattle.store_model.specs.Words.{Sent, Event, trace_of}
use Rattle.store_model.specs.Claims.{AllBytes}
use Rattle.store_model.proofs.Demand.{demand3}
use Rattle.store_model.proofs.Machine.{number_on, cards_by, passed}
use Rattle.store_model.proofs.Simulation.{good_more, same_event, same_image}
use Rattle.stream.specs.Stream.{commands, commands_within, whole}
use Rattle.store.specs.Runs.{per_line}
use Rattle.program_claims.specs.Claims.{requests, Guarded}

-- ---- one request

module _ (v : Format) (cs : Cards) (command reply : List ℕ) (good : GoodCards v cs) where
  abbrev sent : Sent
  sent = record { command = command; lent = reply }

  abbrev asked : Command
  asked = fields_of v command

  abbrev number : ℕ
  number = number_on v cs sent

  pub stored : ltb asked.card (length cs.cards) ≡ true → GoodCard v cs.room (card_of v cs asked)
  stored there = good.each asked.card (ltb-true asked.card (length cs.cards) there)

  -- What holds of both texts of the card and of no text holds of the text read.
  pub of_text : (P : List ℕ → Type 0) → P (text original (card_of v cs asked)) → P (text (translation asked.language) (card_of v cs asked)) → P [] → P (text_read (card_of v cs asked) asked)
  of_text P o t n = go (reads original asked) (reads_translation asked)
    where
      go : (a b : Bool) → P (cond a (text original (card_of v cs asked)) (cond b (text (translation asked.language) (card_of v cs asked)) []))
      go true b = o
      go false true = t
      go false false = n

  pub reply_bytes : Bytes reply → (n : ℕ) → number ≡ n → Bytes (reply_by v n cs command reply)
  reply_bytes b zero e =
      let card = stored (passed v cs sent e).exists in
      Bytes_splice 0 (text_read (card_of v cs asked) asked) reply (of_text Bytes (card.bytes 0) (card.bytes (suc asked.language)) Bytes_nil) b
  reply_bytes b (suc j) e = b

  -- The store on bytes does the same.
  pub answers_by : (serve v (encode v cs) command reply).answer.number ≡ number
  unfolding replied
  answers_by = ap (λ (e : Event). e.answer.number) (same_event v cs sent good)

  pub replies_by : (serve v (encode v cs) command reply).reply ≡ reply_by v number cs command reply
  replies_by = ap (λ (e : Event). e.reply) (same_event v cs sent good)

  pub leaves_by : (serve v (encode v cs) command reply).image ≡ encode v (cards_by v number cs sent)
  leaves_by = same_image v cs sent good

-- ---- a run

-- Each command is bytes.
abbrev pub EachBytes : List (List ℕ) → Type 0
EachBytes [] = Unit {0}
EachBytes (c ∷ cs) = Bytes c × EachBytes cs

pub requests_bytes : (v : Format) (cards : Cards) (reply : List ℕ) (cs : List (List ℕ)) → GoodCards v cards → Bytes reply → EachBytes cs
    → AllBytes (requests v (encode v cards) reply cs)
unfolding requests
requests_bytes v cards reply [] good b each = tt
requests_bytes v cards reply (c ∷ cs) good b each =
    let s : Sent = record { command = c; lent = reply } in
    let n : ℕ = number_on v cards s in
    let later : AllBytes (requests v (serve v (encode v cards) c reply).image (serve v (encode v cards) c reply).reply cs) =
    rw (leaves_by v cards c reply good, replies_by v cards c reply good)
    (requests_bytes v (cards_by v n cards s) (reply_by v n cards c reply) cs
    (good_more v cards s good (record { command = each.0; lent = b }) n refl)
    (reply_bytes v cards c reply good b n refl)
    each.1) in
    (record { command = each.0; lent = b }, later)

-- ---- the commands of a stream of bytes

each_within : (v : Format) (steps : ℕ) (l : List ℕ) → Bytes l → EachBytes (commands_within v steps l)
unfolding commands_within
each_within v zero l b = tt
each_within v (suc steps) l b = go (whole v l) (each_within v steps (drop (extent v l) l) (Bytes_drop (extent v l) l b))
  where
    go : (w : Bool) → EachBytes (commands_within v steps (drop (extent v l) l)) →
        EachBytes (cond w (take (extent v l) l ∷ commands_within v steps (drop (extent v l) l)) [])
    go true later = (Bytes_take (extent v l) l b, later)
    go false later = tt

pub each_bytes : (v : Format) (stream : List ℕ) → Bytes stream → EachBytes (commands v stream)
unfolding commands
each_bytes v stream b = each_within v (length stream) stream b

each_take : (i : ℕ) (cs : List (List ℕ)) → EachBytes cs → EachBytes (take i cs)
each_take zero cs b = tt
each_take (suc i) [] b = tt
each_take (suc i) (c ∷ cs) b = (b.0, each_take i cs b.1)

pub guarded : Guarded
unfolding trace_of
guarded v n c stream reply shape b r =
    let f = fresh_sound v n c shape in
    let bytes : (cs : List (List ℕ)) → EachBytes cs → AllBytes (requests v (fresh v n c) reply cs) =
    λ cs each. subst (λ (image : List ℕ). AllBytes (requests v image reply cs)) f.cards (requests_bytes v (fresh_cards v n c) reply cs f.good r each) in
    record {
      all = demand3 v n c shape (requests v (fresh v n c) reply (commands v stream)) (bytes (commands v stream) (each_bytes v stream b));
      some =
          λ lent.
          demand3 v n c shape (requests v (fresh v n c) reply (take (lent / per_line) (commands v stream)))
          (bytes (take (lent / per_line) (commands v stream)) (each_take (lent / per_line) (commands v stream) (each_bytes v stream b)));
    }
