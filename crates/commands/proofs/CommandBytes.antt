-- A command in bytes. Assumes nothing.
use Prim.Native.Nat.{ℕ, ◌+◌, ◌-◌, ◌≤◌, ◌<◌}
use native.Mathlib.Omega.{arith}
use mathlib.Core.Path.{◌≡◌, refl, sym, ap, subst, ◌∙◌}
use mathlib.Core.List.{List, [], ◌∷◌, ◌++◌}
use mathlib.Core.Bool.{Bool, true, false, ◌&&◌, ◌||◌}
use borrow.Author.Tests.{eqb-true, eq-eqb, leb-true}
use lib.Dec.{eqb, leb, lit<, lit≤}
use lib.ListN.{length, drop, replicate, length-drop, take-append-drop}
use lib.Seq.{drop-drop}
use Rattle.lists.specs.Parts.{part, zeros, Bytes}
use Rattle.lists.specs.Le.{le, to_le, field}
use Rattle.lists.proofs.Tests.{and_in, and_left, and_right}
use Rattle.lists.proofs.Bytes.{Bytes_cons, Bytes_nil, Bytes_append, Bytes_replicate, Bytes_drop, Bytes_part, zeros_means}
use Rattle.lists.proofs.Le.{le_to_le, to_le_le, le_part_bound, Bytes_to_le}
use Rattle.lists.proofs.Parts.{length_part, drop_left}
use Rattle.lists.specs.Table.{all}
use Rattle.commands.specs.Command.{reads_translation, writes_translation, act_checks, pair_checks, well_formed, FitsCommand}
use Rattle.commands.specs.Bytes.{mark_at, pair_at, language_at, mark_bytes, pair_bytes, middle_bytes, last_bytes, blanks, fields_of, payload, extent, formed, parsed, command_bytes}
use Rattle.stamps.specs.Stamp.{mark_whole, FitsPair, FitsMark}
use Rattle.formats.specs.Format.{Format, V1, V2, translations, fixed, update_at, blank_at}
use Rattle.commands.specs.declared.Command.{Command}
use Rattle.stamps.specs.declared.Mark.{Mark}
use Rattle.stamps.specs.declared.Pair.{Pair}
use Rattle.std.specs.Prelude.{Some, None}
use Rattle.commands.proofs.Rules.{by_parts, command_rules}

-- A parse by the one test of the bytes.
pub parsed_formed : (f : Format) (bytes : List ℕ) → formed f bytes ≡ true → parsed f bytes ≡ Some (fields_of f bytes)
unfolding parsed
parsed_formed f bytes e = rw e

pub parsed_malformed : (f : Format) (bytes : List ℕ) → formed f bytes ≡ false → parsed f bytes ≡ None
unfolding parsed
parsed_malformed f bytes e = rw e

-- The test of the bytes, for numbers and tests that were found in them.
formed_by : (f : Format) (bytes : List ℕ) {count : ℕ} {z w : Bool} → count ≡ field 50 2 bytes → z ≡ zeros (blanks f bytes)
    → w ≡ well_formed (fields_of f bytes) → formed f bytes ≡ (eqb (length bytes) (fixed f + count) && z && w)
unfolding formed
formed_by f bytes p q r = rw (r, q, p)

-- The test of the bytes, part by part.
pub formed_parts : (f : Format) (bytes : List ℕ) → formed f bytes ≡
    ((eqb (length bytes) (extent f bytes) && zeros (blanks f bytes))
    && (all (act_checks (fields_of f bytes))
    && (all (pair_checks (fields_of f bytes)) && (mark_whole (mark_at 36 bytes) && mark_whole (mark_at 42 bytes)))))
unfolding formed fields_of
formed_parts f bytes = ap (λ (b : Bool). eqb (length bytes) (extent f bytes) && zeros (blanks f bytes) && b) (by_parts (fields_of f bytes))

-- The first part, for a count and a place that were found in them.
pub whole_by : (f : Format) (bytes : List ℕ) {count size blank : ℕ} → count ≡ field 50 2 bytes → size ≡ fixed f → blank ≡ blank_at f → length bytes ≡ size + count
    → zeros (part blank (36 - blank) bytes) ≡ (eqb (length bytes) (extent f bytes) && zeros (blanks f bytes))
whole_by f bytes {count} {size} p n b h = rw (b, eq-eqb (length bytes) (extent f bytes) (h ∙ rw (n, p)))

-- What holds of bytes that are a command.
pub record Formedness (f : Format) (bytes : List ℕ) : Type 0 where
  pub whole : length bytes ≡ fixed f + (fields_of f bytes).length
  pub blank : zeros (blanks f bytes) ≡ true
  pub rules : well_formed (fields_of f bytes) ≡ true

pub formedness : (f : Format) (bytes : List ℕ) → formed f bytes ≡ true → Formedness f bytes
unfolding formed fields_of
formedness f bytes h =
    record {
      whole = eqb-true (length bytes) (extent f bytes) (and_left (eqb (length bytes) (extent f bytes)) (zeros (blanks f bytes)) front);
      blank = and_right (eqb (length bytes) (extent f bytes)) (zeros (blanks f bytes)) front;
      rules = and_right (eqb (length bytes) (extent f bytes) && zeros (blanks f bytes)) (well_formed (fields_of f bytes)) h;
    }
  where
    front : (eqb (length bytes) (extent f bytes) && zeros (blanks f bytes)) ≡ true
    front = and_left (eqb (length bytes) (extent f bytes) && zeros (blanks f bytes)) (well_formed (fields_of f bytes)) h

-- Their numbers keep the rules.
pub formed_rules : (f : Format) (bytes : List ℕ) → formed f bytes ≡ true → well_formed (fields_of f bytes) ≡ true
formed_rules f bytes h = (formedness f bytes h).rules

-- Their fixed part is whole.
pub fixed_in : (f : Format) (bytes : List ℕ) → formed f bytes ≡ true → fixed f ≤ length bytes
fixed_in f bytes h = let whole = (formedness f bytes h).whole in omega (arith, whole)

-- The numbers read from bytes are within their fields' widths.
pub fits_fields : (f : Format) (bytes : List ℕ) → Bytes bytes → FitsCommand (fields_of f bytes)
unfolding fields_of
fits_fields f bytes h =
    record {
      act = h 0;
      mode = h 1;
      language = language f;
      card = le_part_bound 2 2 bytes h;
      verifier = record { s = le_part_bound 4 8 bytes h; x = le_part_bound 12 8 bytes h };
      opened = record { s = le_part_bound (update_at f) 8 bytes h; x = le_part_bound (update_at f + 8) 8 bytes h };
      expected = record { desk = le_part_bound 36 2 bytes h; transaction = le_part_bound 38 4 bytes h };
      next = record { desk = le_part_bound 42 2 bytes h; transaction = le_part_bound 44 4 bytes h };
      edition = le_part_bound 48 2 bytes h;
      length = le_part_bound 50 2 bytes h;
    }
  where
    language : (f : Format) → language_at f bytes < 256
    language V1 = lit< tt
    language V2 = h 20

-- The language that a command names is one of its version's.
pub language_within : (f : Format) (bytes : List ℕ) → formed f bytes ≡ true → (fields_of f bytes).language < translations f
unfolding fields_of
language_within V1 bytes h = lit< tt
language_within V2 bytes h =
    let c = fields_of V2 bytes in
    let named = (command_rules c (formedness V2 bytes h).rules).language in
    let most : c.language ≤ 3 = leb-true c.language 3 (and_left (leb c.language 3) (reads_translation c || writes_translation c || eqb c.language 0) named) in
    omega arith

-- The payload of bytes that are a command is as long as it says.
pub length_payload : (f : Format) (bytes : List ℕ) → formed f bytes ≡ true → length (payload f bytes) ≡ (fields_of f bytes).length
unfolding payload
length_payload f bytes h = length-drop (fixed f) bytes ∙ rw (formedness f bytes h).whole (omega arith)

pub Bytes_payload : (f : Format) (bytes : List ℕ) → Bytes bytes → Bytes (payload f bytes)
unfolding payload
Bytes_payload f bytes h = Bytes_drop (fixed f) bytes h

-- Lists of bytes put end to end.
data Joined : List ℕ → Type 0 where
  piece : (l : List ℕ) → Bytes l → Joined l
  join : {a b : List ℕ} → Joined a → Joined b → Joined (a ++ b)

joined_bytes : {l : List ℕ} → Joined l → Bytes l
joined_bytes (piece l h) = h
joined_bytes (join {a} {b} h k) = Bytes_append a b (joined_bytes h) (joined_bytes k)

whole_mark : (m : Mark) → FitsMark m → ◌≡◌ {A = Mark} (record { desk = le (to_le 2 m.desk); transaction = le (to_le 4 m.transaction) }) m
whole_mark m f = λ i. record { desk = le_to_le 2 m.desk f.desk i; transaction = le_to_le 4 m.transaction f.transaction i }

whole_pair : (p : Pair) → FitsPair p → ◌≡◌ {A = Pair} (record { s = le (to_le 8 p.s); x = le (to_le 8 p.x) }) p
whole_pair p f = λ i. record { s = le_to_le 8 p.s f.s i; x = le_to_le 8 p.x f.x i }

-- A command's bytes, and back.
module _ (c : Command) (text : List ℕ) where
  pub length_command : (f : Format) → length (command_bytes f c text) ≡ fixed f + length text
  unfolding command_bytes to_le
  length_command V1 = omega arith
  length_command V2 = omega arith

  pub payload_command : (f : Format) → payload f (command_bytes f c text) ≡ text
  unfolding command_bytes payload to_le
  payload_command V1 = refl
  payload_command V2 = refl

  opened_back : (f : Format) → FitsCommand c → pair_at (update_at f) (command_bytes f c text) ≡ c.opened
  unfolding command_bytes to_le part
  opened_back V1 g = whole_pair c.opened g.opened
  opened_back V2 g = whole_pair c.opened g.opened

  language_back : (f : Format) → c.language < translations f → language_at f (command_bytes f c text) ≡ c.language
  unfolding command_bytes to_le
  language_back V1 h = omega arith
  language_back V2 h = refl

  length_back : (f : Format) → FitsCommand c → field 50 2 (command_bytes f c text) ≡ c.length
  unfolding command_bytes to_le part
  length_back V1 g = le_to_le 2 c.length g.length
  length_back V2 g = le_to_le 2 c.length g.length

  edition_back : (f : Format) → FitsCommand c → field 48 2 (command_bytes f c text) ≡ c.edition
  unfolding command_bytes to_le part
  edition_back V1 g = le_to_le 2 c.edition g.edition
  edition_back V2 g = le_to_le 2 c.edition g.edition

  next_back : (f : Format) → FitsCommand c → mark_at 42 (command_bytes f c text) ≡ c.next
  unfolding command_bytes to_le part
  next_back V1 g = whole_mark c.next g.next
  next_back V2 g = whole_mark c.next g.next

  expected_back : (f : Format) → FitsCommand c → mark_at 36 (command_bytes f c text) ≡ c.expected
  unfolding command_bytes to_le part
  expected_back V1 g = whole_mark c.expected g.expected
  expected_back V2 g = whole_mark c.expected g.expected

  blank_back : (f : Format) → zeros (blanks f (command_bytes f c text)) ≡ true
  unfolding command_bytes to_le part zeros
  blank_back V1 = refl
  blank_back V2 = refl

  pub fields_command : (f : Format) → FitsCommand c → c.language < translations f → fields_of f (command_bytes f c text) ≡ c
  unfolding command_bytes fields_of to_le part
  fields_command f g h =
      let card : field 2 2 (command_bytes f c text) ≡ c.card = le_to_le 2 c.card g.card in
      let verifier : pair_at 4 (command_bytes f c text) ≡ c.verifier = whole_pair c.verifier g.verifier in
      let language = language_back f h in
      let opened = opened_back f g in
      let expected = expected_back f g in
      let next = next_back f g in
      let edition = edition_back f g in
      let long = length_back f g in
      λ i. record {
        act = c.act;
        mode = c.mode;
        language = language i;
        card = card i;
        verifier = verifier i;
        opened = opened i;
        expected = expected i;
        next = next i;
        edition = edition i;
        length = long i;
      }

  middle_joined : (f : Format) → FitsCommand c → Joined (middle_bytes f c)
  middle_joined V1 g = join (piece (to_le 8 c.opened.s) (Bytes_to_le 8 c.opened.s)) (piece (to_le 8 c.opened.x) (Bytes_to_le 8 c.opened.x))
  middle_joined V2 g = piece (c.language ∷ replicate 15 0) (Bytes_cons (replicate 15 0) g.language (Bytes_replicate 15 (lit< tt)))

  last_joined : (f : Format) → Joined (last_bytes f c)
  last_joined V1 = piece [] Bytes_nil
  last_joined V2 = join (piece (to_le 8 c.opened.s) (Bytes_to_le 8 c.opened.s)) (piece (to_le 8 c.opened.x) (Bytes_to_le 8 c.opened.x))

  pub Bytes_command : (f : Format) → FitsCommand c → Bytes text → Bytes (command_bytes f c text)
  unfolding command_bytes
  Bytes_command f g h =
      joined_bytes
      (join
      (join
      (join
      (join
      (join (join (join (join (join (piece (c.act ∷ c.mode ∷ []) first) (number 2 c.card)) (pair c.verifier)) (middle_joined f g)) (mark c.expected)) (mark c.next))
      (number 2 c.edition))
      (number 2 c.length))
      (last_joined f))
      (piece text h))
    where
      first : Bytes (c.act ∷ c.mode ∷ [])
      first = Bytes_cons (c.mode ∷ []) g.act (Bytes_cons [] g.mode Bytes_nil)

      number : (count n : ℕ) → Joined (to_le count n)
      number count n = piece (to_le count n) (Bytes_to_le count n)

      pair : (p : Pair) → Joined (pair_bytes p)
      pair p = join (number 8 p.s) (number 8 p.x)

      mark : (m : Mark) → Joined (mark_bytes m)
      mark m = join (number 2 m.desk) (number 4 m.transaction)

  pub formed_command : (f : Format) → FitsCommand c → c.language < translations f → well_formed c ≡ true → length text ≡ c.length → formed f (command_bytes f c text) ≡ true
  formed_command f g h w l =
      formed_by f (command_bytes f c text) (sym (length_back f g)) refl (ap well_formed (sym (fields_command f g h)))
      ∙ and_in (and_in (eq-eqb (length (command_bytes f c text)) (fixed f + c.length) (length_command f ∙ rw l)) (blank_back f)) w

  -- Parsing the bytes of a command gives it back.
  pub parsed_command_lem : (f : Format) → FitsCommand c → c.language < translations f → well_formed c ≡ true → length text ≡ c.length → parsed f (command_bytes f c text) ≡ Some c
  parsed_command_lem f g h w l = parsed_formed f (command_bytes f c text) (formed_command f g h w l) ∙ ap Some (fields_command f g h)

parts_here : (at count : ℕ) (bytes : List ℕ) → part at count bytes ++ drop (at + count) bytes ≡ drop at bytes
unfolding part
parts_here at count bytes = rw (← drop-drop) (take-append-drop count (drop at bytes))

-- The bytes from a place on, of which the next `count` are put as the bytes of their number.
number_here : (at count : ℕ) (bytes : List ℕ) → Bytes bytes → at + count ≤ length bytes → to_le count (field at count bytes) ++ drop (at + count) bytes ≡ drop at bytes
number_here at count bytes h fits =
    let whole : to_le count (field at count bytes) ≡ part at count bytes =
    ap (λ (m : ℕ). to_le m (field at count bytes)) (sym (length_part at count bytes fits)) ∙ to_le_le (part at count bytes) (Bytes_part at count bytes h) in
    rw whole (parts_here at count bytes)

-- Bytes that are a command are the bytes of its numbers and its payload.
pub command_fields : (f : Format) (bytes : List ℕ) → Bytes bytes → formed f bytes ≡ true → command_bytes f (fields_of f bytes) (payload f bytes) ≡ bytes
unfolding command_bytes fields_of payload to_le
command_fields V1 bytes h e =
    rw (
      number 50 2 (lit≤ tt),
      number 48 2 (lit≤ tt),
      number 44 4 (lit≤ tt),
      number 42 2 (lit≤ tt),
      number 38 4 (lit≤ tt),
      number 36 2 (lit≤ tt),
      number 28 8 (lit≤ tt),
      number 20 8 (lit≤ tt),
      number 12 8 (lit≤ tt),
      number 4 8 (lit≤ tt),
      number 2 2 (lit≤ tt),
      ← drop_left bytes 0 {i = 1} (omega (arith, whole)),
      ← drop_left bytes 0 {i = 0} (omega (arith, whole)),
    )
  where
    whole : 52 ≤ length bytes
    whole = omega (arith, (formedness V1 bytes e).whole)

    number : (at count : ℕ) → at + count ≤ 52 → to_le count (field at count bytes) ++ drop (at + count) bytes ≡ drop at bytes
    number at count fits = number_here at count bytes h (omega (arith, whole))
command_fields V2 bytes h e =
    rw (
      number 60 8 (lit≤ tt),
      number 52 8 (lit≤ tt),
      number 50 2 (lit≤ tt),
      number 48 2 (lit≤ tt),
      number 44 4 (lit≤ tt),
      number 42 2 (lit≤ tt),
      number 38 4 (lit≤ tt),
      number 36 2 (lit≤ tt),
      blank,
      ← drop_left bytes 0 {i = 20} (omega (arith, whole)),
      number 12 8 (lit≤ tt),
      number 4 8 (lit≤ tt),
      number 2 2 (lit≤ tt),
      ← drop_left bytes 0 {i = 1} (omega (arith, whole)),
      ← drop_left bytes 0 {i = 0} (omega (arith, whole)),
    )
  where
    whole : 68 ≤ length bytes
    whole = omega (arith, (formedness V2 bytes e).whole)

    number : (at count : ℕ) → at + count ≤ 68 → to_le count (field at count bytes) ++ drop (at + count) bytes ≡ drop at bytes
    number at count fits = number_here at count bytes h (omega (arith, whole))

    blank : replicate 15 0 ++ drop 36 bytes ≡ drop 21 bytes
    blank =
        let zero : part 21 15 bytes ≡ replicate 15 0 =
        zeros_means (part 21 15 bytes) (formedness V2 bytes e).blank ∙ ap (λ (n : ℕ). replicate n 0) (length_part 21 15 bytes (omega (arith, whole))) in
        subst (λ (l : List ℕ). l ++ drop 36 bytes ≡ drop 21 bytes) zero (parts_here 21 15 bytes)
