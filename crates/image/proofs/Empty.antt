-- Cards with nothing on them, and the bytes of a fresh image. Assumes nothing.
use Prim.Native.Nat.{ℕ, zero, suc, ◌+◌, ◌*◌, ◌-◌, ◌<◌}
use native.Mathlib.Omega.{arith}
use mathlib.Core.Path.{◌≡◌, refl, sym, ap, ◌∙◌, subst}
use mathlib.Core.List.{List, [], append_assoc}
use lib.ListN.{get_or, replicate, length-replicate, get_or-replicate, replicate-append-replicate}
use Rattle.lists.specs.Parts.{concat_map, tabulate}
use Rattle.lists.specs.Le.{to_le}
use Rattle.lists.proofs.ConcatMap.{tabulate_is, concat_map_replicate}
use Rattle.formats.specs.Format.{Format, V1, V2, entry_size, translations}
use Rattle.image.specs.Layout.{sides, size_of, header_size}
use Rattle.image.specs.Bytes.{header, entry_bytes, pad}
use Rattle.image.specs.Image.{Translation, translation_of, no_translation, side_text, no_card, card_entry, bodies, encode, fresh, fresh_cards}
use Rattle.image.proofs.Written.{take_replicate}

-- A card with nothing on it, seen in any language.
pub no_translation_lem : (f : Format) (t : ℕ) → translation_of t (no_card f) ≡ no_translation
no_translation_lem f t = go (translations f) t
  where
    go : (n t : ℕ) → get_or (replicate n no_translation) t no_translation ≡ no_translation
    go zero t = refl
    go (suc n) zero = refl
    go (suc n) (suc t) = go n t

entry_zero : (f : Format) → card_entry f (no_card f) ≡ replicate (entry_size f) 0
unfolding entry_bytes to_le concat_map tabulate
entry_zero V1 = refl
entry_zero V2 = refl

pub side_empty : (f : Format) (side : ℕ) → side_text side (no_card f) ≡ []
side_empty f zero = refl
side_empty f (suc t) = ap (λ (u : Translation). u.text) (no_translation_lem f t)

pub bodies_zero : (f : Format) (c : ℕ) → bodies f c (no_card f) ≡ replicate (sides f * c) 0
unfolding bodies pad
bodies_zero f c =
    let texts : ℕ → List ℕ = λ (side : ℕ). side_text side (no_card f) in
    let none : List (List ℕ) = replicate (sides f) [] in
    let empty : tabulate texts (sides f) ≡ none =
    ap (tabulate texts) (sym (length-replicate (sides f) []))
    ∙ tabulate_is texts none [] (λ i h. side_empty f i ∙ sym (get_or-replicate (sides f) i [] [] (subst (λ (n : ℕ). i < n) (length-replicate (sides f) []) h))) in
    ap (concat_map (pad c)) empty ∙ concat_map_replicate (pad c) [] c 0 (take_replicate {A = ℕ} c c 0 (omega arith)) (sides f)

pub fresh_cards_lem : (f : Format) (n c : ℕ) → encode f (fresh_cards f n c) ≡ fresh f n c
unfolding encode fresh_cards fresh
fresh_cards_lem f n c =
    let rest : n * entry_size f + n * (sides f * c) ≡ size_of f n c - header_size = omega arith in
    rw (
      length-replicate n (no_card f),
      concat_map_replicate (card_entry f) (no_card f) (entry_size f) 0 (entry_zero f) n,
      concat_map_replicate (bodies f c) (no_card f) (sides f * c) 0 (bodies_zero f c) n,
      append_assoc (header f n c) (replicate (n * entry_size f) 0) (replicate (n * (sides f * c)) 0),
      replicate-append-replicate {A = ℕ} (n * entry_size f) (n * (sides f * c)) 0,
      rest,
    )
