-- Each arm hands back the part of its own buffer, by the number that both share. Assumes nothing.
use Prim.Native.Nat.{ℕ, ◌≤◌}
use mathlib.Core.Path.{◌≡◌, sym, ap, ◌∙◌}
use mathlib.Core.Bool.{Bool, ◌||◌}
use lib.ListN.{length, take}
use Rattle.lists.specs.Table.{first, settled}
use Rattle.desk_shows.specs.Show.{Text, held_text, of, beyond, behind_asked, show_rows, shown_number, shown_part}
use Rattle.desk_shows.specs.declared.Asked.{Asked}
use Rattle.desk_shows.specs.declared.Asked.TheVariants.{Original, Translation}
use Rattle.desk_shows.proofs.Show.{fits, settles}
use Rattle.desk_shows.proofs.shown.Goals as goal

-- What the desk holds, whether the translation is asked for and behind, and the number that is given.
module _ (o t : Text) (edition from : ℕ) (asked : Asked) {late : Bool} (e : late ≡ behind_asked edition from asked) {n : ℕ} (is : n ≡ first (show_rows (beyond o || beyond t) late)) where
  number : n ≡ shown_number o t edition from asked
  number = is ∙ ap (λ (b : Bool). first (show_rows (beyond o || beyond t) b)) e

  within : (l : Asked) → n ≡ 0 → (of l o t).length ≤ length (of l o t).buffer
  within l none = fits l o t late (sym is ∙ none)

  part : (l : Asked) → asked ≡ l → take (settled n (of l o t).length 0) (of l o t).buffer ≡ shown_part o t edition from asked
  part l told = settles o t edition from n asked l told number

pub part_of-requires : goal.part_of-requires
part_of-requires c =
    let a = c.args in
    let o = held_text a.original.now a.original_length in
    let t = held_text a.translation.now a.translation_length in
    within o t a.edition a.from a.asked c.behind_asked.ensures c.judged-given.ensures Original

pub part_of-requires-in-Translation : goal.part_of-requires-in-Translation
part_of-requires-in-Translation c =
    let a = c.args in
    let o = held_text a.original.now a.original_length in
    let t = held_text a.translation.now a.translation_length in
    within o t a.edition a.from a.asked c.behind_asked.ensures c.judged-given.ensures Translation

pub returns-in-Original : goal.returns-in-Original
returns-in-Original c =
    let a = c.args in
    let o = held_text a.original.now a.original_length in
    let t = held_text a.translation.now a.translation_length in
    let told = c.in-Original.is in
    record {
      number = c.number_of.ensures ∙ number o t a.edition a.from a.asked c.behind_asked.ensures c.judged-given.ensures;
      part = c.part_of.ensures.0 ∙ part o t a.edition a.from a.asked c.behind_asked.ensures c.judged-given.ensures Original told;
      place = rw told c.part_of.ensures.1;
    }

pub returns-in-Translation : goal.returns-in-Translation
returns-in-Translation c =
    let a = c.args in
    let o = held_text a.original.now a.original_length in
    let t = held_text a.translation.now a.translation_length in
    let told = c.in-Translation.is in
    record {
      number = c.number_of.ensures ∙ number o t a.edition a.from a.asked c.behind_asked.ensures c.judged-given.ensures;
      part = c.part_of-in-Translation.ensures.0 ∙ part o t a.edition a.from a.asked c.behind_asked.ensures c.judged-given.ensures Translation told;
      place = rw told c.part_of-in-Translation.ensures.1;
    }
