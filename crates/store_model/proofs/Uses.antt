-- Demand 3, its words and its like, used where the hypotheses only just hold: nothing sent, the largest shape, a conversion with
-- nothing before it or nothing behind it. A stricter hypothesis or a sentence left out is noticed here.
-- Assumes nothing.
use Prim.Native.Nat.{ℕ}
use native.Mathlib.Omega.{arith}
use mathlib.Core.Path.{◌≡◌, refl, subst}
use mathlib.Core.Logic.{◌⊎◌, inl, inr}
use mathlib.Core.List.{List, [], ◌∷◌, ◌++◌}
use mathlib.Core.Bool.{true, cond}
use Rattle.formats.specs.Format.{V1, V2}
use Rattle.lists.specs.Le.{to_le}
use Rattle.stamps.specs.Stamp.{stamp, shared, exclusive, no_pair, no_mark}
use Rattle.stamps.specs.declared.Pair.{Pair}
use Rattle.commands.specs.declared.Command.{Command}
use Rattle.commands.specs.Command.{Language, original, translation, writes}
use Rattle.commands.specs.Bytes.{command_bytes}
use Rattle.guard.specs.Replies.{blank_reply}
use Rattle.image.specs.Layout.{size_of}
use Rattle.image.specs.Image.{fresh}
use Rattle.image.specs.Convert.{convert_number}
use Rattle.image_claims.proofs.Uses.{largest1, largest2, nothing_numbered}
use Rattle.store_model.specs.Words.{
  Sent,
  Event,
  event_of,
  command_of,
  image_after,
  fresh_after,
  trace_from,
  trace_of,
  outdated,
  last_text,
  late,
  far_ahead,
  right_mark,
  carries,
  premise,
  OneSession,
  intrudes,
}
use Rattle.store_model.specs.Serve.{serve}
use Rattle.store_model.specs.Meaning.{Among, Overtakes, Beyond, Carries, Ordered, Intruder}
use Rattle.store_model.specs.Pairs.{largest_pair}
use Rattle.store_model.specs.Cases.{stamp1, text205, write_original}
use Rattle.store_model.specs.Claims.{AllBytes, Claim}
use Rattle.store_model.specs.Conversion.{trace_across}
use Rattle.store_model.proofs.ByTest.{sent_bytes}
use Rattle.store_model.proofs.Conversion.{demand3_across}
use Rattle.store_model.proofs.Demand.{demand3}
use Rattle.store_model.proofs.Pairs.{pair_shown}
use Rattle.store_model.proofs.Versions.{other_version, each_by_itself}
use Rattle.store_model.proofs.Words.{words_mean}

-- Malformed bytes, in either version.
abbrev odd : List Sent
odd = record { command = 255 ∷ []; lent = 255 ∷ [] } ∷ []

odd_bytes : AllBytes odd
odd_bytes = (sent_bytes (record { command = 255 ∷ []; lent = 255 ∷ [] }) tt tt, tt)

nothing_sent : Claim 89 [] (trace_of V1 89 352 [])
nothing_sent = demand3 V1 89 352 largest1 [] tt

odd_sent : Claim 15 odd (trace_of V2 15 864 odd)
odd_sent = demand3 V2 15 864 largest2 odd odd_bytes

-- Over a conversion, with the whole limit of 65,536 bytes used by the new image: nothing before it and nothing behind
-- it; nothing before it; the story of both.
converts_nothing : convert_number (fresh_after V1 15 864 []) (size_of V2 15 864) ≡ 0
converts_nothing = (demand3_across 15 864 largest2 [] [] tt tt).converts

claims_nothing : Claim 15 ([] ++ odd) (trace_across 15 864 [] odd)
claims_nothing = (demand3_across 15 864 largest2 [] odd tt odd_bytes).claim

claims_before : Claim 15 (odd ++ []) (trace_across 15 864 odd [])
claims_before = (demand3_across 15 864 largest2 odd [] odd_bytes tt).claim

-- ---- the other version (rule 15.13): no bytes at all, in either

turned : (serve V2 [] [] (255 ∷ [])).answer.number ≡ 9
turned = (other_version V2 [] [] (255 ∷ []) (λ e. absurd (omega (arith, e, nothing_numbered)))).number

turned_kept : (serve V1 [] [] (255 ∷ [])).image ≡ []
turned_kept = (other_version V1 [] [] (255 ∷ []) (λ e. absurd (omega (arith, e, nothing_numbered)))).kept

turned_silent : (serve V1 [] [] (255 ∷ [])).reply ≡ 255 ∷ []
turned_silent = (other_version V1 [] [] (255 ∷ []) (λ e. absurd (omega (arith, e, nothing_numbered)))).silent

-- ---- each language by itself (rule 15.8), whatever came before and whatever the answer was

apart : translation 3 ≡ original → ⊥
apart e = let z : number (translation 3) ≡ number original = subst (λ (l : Language). number (translation 3) ≡ number l) e refl in absurd (omega (arith, z))
  where
    number : Language → ℕ
    number original = 0
    number (translation t) = 1

original_kept : (e : Event) → writes (translation 3) (command_of e) ≡ true → last_text original (e ∷ []) 7 ≡ last_text original [] 7
original_kept e = (each_by_itself e [] 7).texts (translation 3) original apart

others_kept : (e : Event) → writes (translation 0) (command_of e) ≡ true → outdated 3 (e ∷ []) 7 ≡ outdated 3 [] 7
others_kept e = (each_by_itself e [] 7).behind 0 3 (λ e. absurd (omega (arith, e)))

-- ---- the pair of a reply (rule 10.14): of a write, with malformed bytes before it

abbrev two : List Sent
two = record { command = 255 ∷ []; lent = 255 ∷ [] } ∷ write_original 0 stamp1 text205 ∷ []

two_bytes : AllBytes two
unfolding command_bytes to_le
two_bytes = (odd_bytes.0, (sent_bytes (write_original 0 stamp1 text205) tt tt, tt))

abbrev odd_event : Event
odd_event = event_of V1 (record { command = 255 ∷ []; lent = 255 ∷ [] }) (serve V1 (fresh V1 89 352) (255 ∷ []) (255 ∷ []))

abbrev write_event : Event
write_event = event_of V1 (write_original 0 stamp1 text205) (serve V1 (serve V1 (fresh V1 89 352) (255 ∷ []) (255 ∷ [])).image (write_original 0 stamp1 text205).command [])

shown : write_event.answer.pair ≡ cond (blank_reply write_event.answer.number) no_pair (largest_pair (command_of write_event).card (write_event ∷ odd_event ∷ []))
unfolding trace_of trace_from image_after
shown = pair_shown V1 89 352 largest1 two two_bytes [] write_event (odd_event ∷ []) refl

-- ---- what the words mean, both ways (rules 9.2 to 9.7): one accepted write of card 0, under (1.1.0, 1.1.0), and commands after it

abbrev command_under : ℕ → ℕ → Pair → Command
command_under act mode p =
    record { act = act; mode = mode; language = 0; card = 0; verifier = p; opened = no_pair; expected = no_mark; next = no_mark; edition = 0; length = 0 }

abbrev given : Command → Event
given c =
    record {
      sent = record { command = []; lent = [] };
      read = record { formed = true; numbers = c; payload = text205 };
      answer = record { number = 0; pair = no_pair; mark = no_mark; edition = 0; from = 0; length = 0 };
      reply = [];
    }

abbrev wrote1 : Event
wrote1 = given (command_under 3 exclusive (record { s = stamp1; x = stamp1 }))

-- The first of a list.
abbrev at_first : (e : Event) (l : List Event) → Among e (e ∷ l)
at_first e l = record { front = []; back = l; split = refl }

-- An exclusive command with the same x and a smaller s is late.
abbrev late_one : Command
late_one = command_under 5 exclusive (record { s = 0; x = stamp1 })

late_means : (e : Event) × Among e (wrote1 ∷ []) × Overtakes late_one e
late_means = (words_mean.lateness (wrote1 ∷ []) late_one).0 refl

late_back : late (wrote1 ∷ []) late_one ≡ true
late_back = (words_mean.lateness (wrote1 ∷ []) late_one).1 (wrote1, at_first wrote1 [], record { accepted = refl; card = refl; larger = inr (refl, omega arith) })

-- The first T that is too far: 1,000,001 above nothing.
abbrev far_one : Command
far_one = command_under 5 exclusive (record { s = 0; x = stamp 1000001 1 0 })

far_means : Beyond (λ (p : Pair). p.s) [] far_one ⊎ Beyond (λ (p : Pair). p.x) [] far_one
far_means = (words_mean.distance [] far_one).0 refl

far_back : far_ahead [] far_one ≡ true
far_back = (words_mean.distance [] far_one).1 far_means

-- No mark is expected, and none was left.
mark_means : right_mark (wrote1 ∷ []) late_one ≡ true
mark_means = (words_mean.mark (wrote1 ∷ []) late_one).1 (inr (record { last = wrote1; nearest = record { among = at_first wrote1 []; holds = refl; alone = refl }; passes = refl }))

-- No translation was accepted.
age_means : outdated 3 (wrote1 ∷ []) 0 ≡ true
age_means = (words_mean.age 3 (wrote1 ∷ []) 0).1 (inl refl)

unwritten_text : last_text (translation 3) (wrote1 ∷ []) 0 ≡ []
unwritten_text = words_mean.unwritten (translation 3) (wrote1 ∷ []) 0 refl

written_text : last_text original (wrote1 ∷ []) 0 ≡ text205
written_text = words_mean.written original (wrote1 ∷ []) 0 wrote1 (record { among = at_first wrote1 []; holds = refl; alone = refl })

-- A shared command with the x of another start of the same desk carries it.
abbrev carrier : Command
carrier = command_under 5 shared (record { s = stamp 1 1 1; x = stamp1 })

carries_means : Carries carrier
carries_means = (words_mean.carrying carrier).0 refl

carries_back : carries carrier ≡ true
carries_back = (words_mean.carrying carrier).1 carries_means

-- Its s is above that of the exclusive command under that stamp: the order is kept.
order_means : Ordered 0 ((given carrier).read ∷ wrote1.read ∷ [])
order_means = (words_mean.order 0 ((given carrier).read ∷ wrote1.read ∷ [])).0 refl

order_back : premise 0 ((given carrier).read ∷ wrote1.read ∷ []) ≡ true
order_back = (words_mean.order 0 ((given carrier).read ∷ wrote1.read ∷ [])).1 order_means

session_means : OneSession wrote1 wrote1
session_means = (words_mean.session wrote1 wrote1).1 (refl, refl, refl)

-- A shared command of another start between two writes intrudes.
intrudes_means : Intruder 0 wrote1 (given carrier)
intrudes_means = (words_mean.intruding 0 wrote1 (given carrier)).0 refl

intrudes_back : intrudes 0 wrote1 (given carrier) ≡ true
intrudes_back = (words_mean.intruding 0 wrote1 (given carrier)).1 intrudes_means
