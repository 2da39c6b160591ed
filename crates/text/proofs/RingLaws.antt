-- The reader of an R line is fixed by the writer alone: it answers a ring exactly where the text is that ring's line, and a place exactly where that is the first faulty
-- byte of the two shapes together; by the laws of each shape, and by that no text is a line of both.
use Prim.Native.Nat.{ℕ, zero, suc, ◌+◌, ◌≤◌, ◌<◌, max}
use mathlib.Core.Path.{◌≡◌, refl, ap, ◌∙◌, sym, subst}
use mathlib.Core.List.{List, [], ◌∷◌, ◌++◌, append_assoc}
use mathlib.Core.Bool.{Bool, true, false}
use mathlib.Core.Logic.{◌↔◌}
use native.Mathlib.Omega.{arith}
use native.Mathlib.Decide.{dec_le}
use lib.ListN.{length, get_or, take, drop, length-append}
use Rattle.std.proofs.Math.Seq.{take-append_seam, take-append-add}
use Rattle.std.proofs.lemmas.List.{take-append-drop}
use Rattle.std.specs.Prelude.{Result, Ok, Err}
use Rattle.family.specs.declared.family.Family.{Family}
use Rattle.family.specs.declared.family.Family.TheVariants.{Sonet, Sdh}
use Rattle.family.specs.Sizes.{Known}
use Rattle.ring.specs.Ring.{ring_of}
use Rattle.ring.specs.declared.types.Ring.{Ring}
use Rattle.ring.specs.Limits.{Countable}
use Rattle.text.specs.Bytes.{tab, lf, digit0, letter_r, letter_m}
use Rattle.text.specs.Number.{limit, digits}
use Rattle.text.specs.Field.{top, spell}
use Rattle.text.specs.WriteLine.{end_of, write_line, FitsShape}
use Rattle.text.specs.FirstFault.{Agrees, FirstFault}
use Rattle.text.specs.Shapes.{ring_shape}
use Rattle.text.specs.FieldByte.{field_byte}
use Rattle.text.specs.ReadLine.{Reading, read_line}
use Rattle.text.specs.RingLine.{marked_ring_shape, ring_shape_of, ring_values_of, ring_line, ring_byte, RingLineIs, RingAgrees, RingFault}
use Rattle.text.specs.ReadRing.{ring_said, either_said, read_ring}
use Rattle.text.proofs.Apart.{clash}
use Rattle.text.proofs.LineLaws.{line-good, line-bad, bad-within, fewer}
use Rattle.text.proofs.Lengths.{line-short}
use Rattle.text.proofs.Spellings.{spelling-is}

-- ---- no text is a line of both: behind the fibres stands LF or a tab

-- no byte is below the digits
abbrev Digits : List ℕ → Type 0
Digits l = (k : ℕ) → k < length l → digit0 ≤ get_or l k 0

digits-behind : (x : ℕ) (l : List ℕ) → Digits (x ∷ l) → Digits l
digits-behind x l h k less = h (suc k) (omega arith)

-- digits end at the first byte that is none
digits-end : (a b : List ℕ) (e f : ℕ) (xs ys : List ℕ) → Digits a → Digits b → e < digit0 → f < digit0 → a ++ e ∷ xs ≡ b ++ f ∷ ys → (e ≡ f) × (xs ≡ ys)
digits-end [] [] e f xs ys p q h k is = (cc, cc)
digits-end [] (y ∷ b) e f xs ys p q h k is = let same : e ≡ y = cc in absurd (omega (arith, q 0 (omega arith)))
digits-end (x ∷ a) [] e f xs ys p q h k is = let same : x ≡ f = cc in absurd (omega (arith, p 0 (omega arith)))
digits-end (x ∷ a) (y ∷ b) e f xs ys p q h k is = digits-end a b e f xs ys (digits-behind x a p) (digits-behind y b q) h k (cc)

module _ (most : ℕ) (fit : Countable most) where
  -- the numbers of both fit
  digits-are : (n : ℕ) → n < limit most → Digits (digits n)
  digits-are n h = ((spelling-is most fit n (digits n)).1 (h, refl)).low

  -- what either line begins with
  abbrev begun : ℕ → ℕ → List ℕ
  begun n fibres = letter_r ∷ tab ∷ (digits n ++ tab ∷ digits fibres)

  plain-line : (n fibres : ℕ) → ring_line (ring_of n fibres Sonet) ≡ begun n fibres ++ lf ∷ []
  unfolding write_line spell end_of
  plain-line n fibres = ap (λ (l : List ℕ). letter_r ∷ tab ∷ l) (sym (append_assoc (digits n) (tab ∷ digits fibres) (lf ∷ [])))

  marked-line : (n fibres : ℕ) → ring_line (ring_of n fibres Sdh) ≡ begun n fibres ++ tab ∷ letter_m ∷ lf ∷ []
  unfolding write_line spell end_of
  marked-line n fibres = ap (λ (l : List ℕ). letter_r ∷ tab ∷ l) (sym (append_assoc (digits n) (tab ∷ digits fibres) (tab ∷ letter_m ∷ lf ∷ [])))

  -- no SONET line has a tab behind its fibres
  no-tab-behind : (n fibres m twice : ℕ) → n < limit most → fibres < limit most → m < limit most → twice < limit most → (rest : List ℕ)
      → ring_line (ring_of n fibres Sonet) ≡ begun m twice ++ tab ∷ rest → ⊥
  unfolding write_line spell end_of
  no-tab-behind n fibres m twice hn hf hm ht rest e =
      let plain : List ℕ = digits fibres ++ lf ∷ [] in
      let marked : List ℕ = digits twice ++ tab ∷ rest in
      let split : begun m twice ++ tab ∷ rest ≡ letter_r ∷ tab ∷ (digits m ++ tab ∷ marked) =
      ap (λ (l : List ℕ). letter_r ∷ tab ∷ l) (append_assoc (digits m) (tab ∷ digits twice) (tab ∷ rest)) in
      let whole : letter_r ∷ tab ∷ (digits n ++ tab ∷ plain) ≡ letter_r ∷ tab ∷ (digits m ++ tab ∷ marked) = e ∙ split in
      let same : digits n ++ tab ∷ plain ≡ digits m ++ tab ∷ marked = cc in
      let nodes : (tab ≡ tab) × (plain ≡ marked) = digits-end (digits n) (digits m) tab tab plain marked (digits-are n hn) (digits-are m hm) (omega arith) (omega arith) same in
      let ends : (lf ≡ tab) × ([] ≡ rest) =
      digits-end (digits fibres) (digits twice) lf tab [] rest (digits-are fibres hf) (digits-are twice ht) (omega arith) (omega arith) nodes.1 in
      absurd (omega (arith, ends.0))

  pub lines-apart : (n fibres m twice : ℕ) → n < limit most → fibres < limit most → m < limit most → twice < limit most
      → ring_line (ring_of n fibres Sonet) ≡ ring_line (ring_of m twice Sdh) → ⊥
  lines-apart n fibres m twice hn hf hm ht e = no-tab-behind n fibres m twice hn hf hm ht (letter_m ∷ lf ∷ []) (e ∙ marked-line m twice)

  -- ---- the values of a family's line

  pub ring-in-range : (family : Family) (n fibres : ℕ) → n < limit most → fibres < limit most → FitsShape most (ring_shape_of family) (ring_values_of family n fibres)
  unfolding FitsShape top
  ring-in-range Sonet n fibres a b = (omega arith, (a, (b, tt)))
  ring-in-range Sdh n fibres a b = (omega arith, (a, (b, (omega arith, tt))))

  values-say : (marks : Bool) (family : Family) (s vs : List ℕ) → Known marks family
      → (s ≡ write_line (ring_shape_of family) vs) × FitsShape most (ring_shape_of family) vs → RingLineIs marks most s (ring_said family vs)
  unfolding FitsShape top
  values-say marks Sonet s [] k h = absurd h.1
  values-say marks Sonet s (a ∷ []) k h = absurd h.1.1
  values-say marks Sonet s (a ∷ b ∷ []) k h = absurd h.1.1.1
  values-say marks Sonet s (a ∷ b ∷ c ∷ d ∷ vs) k h = absurd h.1.1.1.1
  values-say marks Sonet s (a ∷ b ∷ c ∷ []) k h =
      let z : a ≡ 0 = omega (arith, h.1.0) in
      record { known = k; text = rw z at h.0; nodes = h.1.1.0; fibres = h.1.1.1.0 }
  values-say marks Sdh s [] k h = absurd h.1
  values-say marks Sdh s (a ∷ []) k h = absurd h.1.1
  values-say marks Sdh s (a ∷ b ∷ []) k h = absurd h.1.1.1
  values-say marks Sdh s (a ∷ b ∷ c ∷ []) k h = absurd h.1.1.1.1
  values-say marks Sdh s (a ∷ b ∷ c ∷ d ∷ e ∷ vs) k h = absurd h.1.1.1.1.1
  values-say marks Sdh s (a ∷ b ∷ c ∷ d ∷ []) k h =
      let z : a ≡ 0 = omega (arith, h.1.0) in
      let y : d ≡ 0 = omega (arith, h.1.1.1.1.0) in
      record { known = k; text = rw (z, y) at h.0; nodes = h.1.1.0; fibres = h.1.1.1.0 }

  module _ (marks : Bool) (s : List ℕ) where
    -- it is this line
    abbrev Is : Family → ℕ → ℕ → Type 0
    Is family n fibres = RingLineIs marks most s (ring_of n fibres family)

    reads : (family : Family) (n fibres : ℕ) → Is family n fibres → read_line most (ring_shape_of family) s ≡ Ok (ring_values_of family n fibres)
    reads family n fibres h = (line-good most fit (ring_shape_of family) s (ring_values_of family n fibres)).1 (h.text, ring-in-range family n fibres h.nodes h.fibres)

    -- ---- what is read

    plain-says : (vs : List ℕ) → read_line most ring_shape s ≡ Ok vs → RingLineIs marks most s (ring_said Sonet vs)
    plain-says vs e = values-say marks Sonet s vs tt ((line-good most fit ring_shape s vs).0 e)

    marked-says : (vs : List ℕ) → marks ≡ true → read_line most marked_ring_shape s ≡ Ok vs → RingLineIs marks most s (ring_said Sdh vs)
    marked-says vs k e = values-say marks Sdh s vs k ((line-good most fit marked_ring_shape s vs).0 e)

    is-line : (ring : Ring) (x : Reading) → read_line most ring_shape s ≡ x → (m : Bool) → marks ≡ m → (y : Reading) → read_line most marked_ring_shape s ≡ y
        → either_said x m y ≡ Ok ring → RingLineIs marks most s ring
    unfolding either_said
    is-line ring (Ok vs) i m k y j e = let is : ring_said Sonet vs ≡ ring = cc in subst (RingLineIs marks most s) is (plain-says vs i)
    is-line ring (Err p) i false k y j e = clash (cc)
    is-line ring (Err p) i true k (Ok vs) j e = let is : ring_said Sdh vs ≡ ring = cc in subst (RingLineIs marks most s) is (marked-says vs k j)
    is-line ring (Err p) i true k (Err q) j e = clash (cc)

    not-both : (n fibres : ℕ) (vs : List ℕ) → Is Sdh n fibres → read_line most ring_shape s ≡ Ok vs → ⊥
    not-both n fibres vs h e =
        let w = plain-says vs e in
        lines-apart (get_or vs 1 0) (get_or vs 2 0) n fibres w.nodes w.fibres h.nodes h.fibres (sym w.text ∙ h.text)

    line-is : (family : Family) (n fibres : ℕ) → Is family n fibres → (x : Reading) → read_line most ring_shape s ≡ x
        → either_said x marks (read_line most marked_ring_shape s) ≡ Ok (ring_of n fibres family)
    unfolding either_said
    line-is Sonet n fibres h x i = rw (sym i ∙ reads Sonet n fibres h) refl
    line-is Sdh n fibres h (Ok vs) i = absurd (not-both n fibres vs h i)
    line-is Sdh n fibres h (Err p) i = rw (h.known, reads Sdh n fibres h) refl

    -- a text is read as an R line that says this exactly when it is that line
    pub ring-good : (ring : Ring) → (read_ring marks most s ≡ Ok ring) ↔ RingLineIs marks most s ring
    unfolding read_ring
    ring-good ring = (
      is-line ring (read_line most ring_shape s) refl marks refl (read_line most marked_ring_shape s) refl,
      λ h. line-is ring.family ring.nodes ring.fibres h (read_line most ring_shape s) refl,
    )

    -- a text is the R line of one ring
    pub one-ring : {p q : Ring} → RingLineIs marks most s p → RingLineIs marks most s q → p ≡ q
    one-ring {p} {q} h k = let same : ◌≡◌ {A = Result Ring ℕ} (Ok p) (Ok q) = sym ((ring-good p).1 h) ∙ (ring-good q).1 k in cc

    -- ---- what is refused

    -- a whole line agrees as far as one likes
    whole : (family : Family) (vs : List ℕ) (k : ℕ) → Known marks family → (s ≡ write_line (ring_shape_of family) vs) × FitsShape most (ring_shape_of family) vs → RingAgrees marks most s k
    whole family vs k known h = record { family = family; known = known; line = record { vs = vs; range = h.1; text = ap (take k) (sym h.0) } }

    -- where no M may stand, the fault is that of SONET's shape
    plain-fault : (p : ℕ) → marks ≡ false → FirstFault most ring_shape s p → RingFault marks most s p
    plain-fault p e f = record { before = record { family = Sonet; known = tt; line = f.before }; here = λ l. none l.family l.known l.line }
      where
        none : (family : Family) → Known marks family → Agrees most (ring_shape_of family) s (p + 1) → ⊥
        none Sonet k l = f.here l
        none Sdh k l = clash (cc)

    -- where both shapes are refused, the later fault is that of the two together
    later-fault : (a b p : ℕ) → marks ≡ true → FirstFault most ring_shape s a → FirstFault most marked_ring_shape s b → max a b ≡ p → RingFault marks most s p
    later-fault a b p k f g e = record { before = before (dec_le b a); here = λ l. none l.family l.line }
      where
        before : Dec (b ≤ a) → RingAgrees marks most s p
        before (yes h) = let ap : a ≡ p = omega arith in record { family = Sonet; known = tt; line = subst (Agrees most ring_shape s) ap f.before }
        before (no h) = let bp : b ≡ p = omega arith in record { family = Sdh; known = k; line = subst (Agrees most marked_ring_shape s) bp g.before }

        none : (family : Family) → Agrees most (ring_shape_of family) s (p + 1) → ⊥
        none Sonet l = f.here (fewer most fit ring_shape s (a + 1) (p + 1) (omega arith) l)
        none Sdh l = g.here (fewer most fit marked_ring_shape s (b + 1) (p + 1) (omega arith) l)

    -- a text has one first faulty byte
    pub one-ring-fault : {p q : ℕ} → RingFault marks most s p → RingFault marks most s q → p ≡ q
    one-ring-fault {p} {q} f g = go (dec_le p q) (dec_le q p)
      where
        less : (p q : ℕ) → p < q → RingAgrees marks most s q → (RingAgrees marks most s (p + 1) → ⊥) → ⊥
        less p q h l n = n (record { family = l.family; known = l.known; line = fewer most fit (ring_shape_of l.family) s (p + 1) q (omega arith) l.line })

        go : Dec (p ≤ q) → Dec (q ≤ p) → p ≡ q
        go (yes h) (yes k) = omega arith
        go (no h) _ = absurd (less q p (omega arith) f.before g.here)
        go _ (no k) = absurd (less p q (omega arith) g.before f.here)

    fault-is : (p : ℕ) (x : Reading) → read_line most ring_shape s ≡ x → (m : Bool) → marks ≡ m → (y : Reading) → read_line most marked_ring_shape s ≡ y
        → either_said x m y ≡ Err p → RingFault marks most s p
    unfolding either_said
    fault-is p (Ok vs) i m k y j e = clash (cc)
    fault-is p (Err a) i false k y j e = let ap : a ≡ p = cc in plain-fault p k ((line-bad most fit ring_shape s p).0 (rw ap at i))
    fault-is p (Err a) i true k (Ok vs) j e = clash (cc)
    fault-is p (Err a) i true k (Err b) j e = later-fault a b p k ((line-bad most fit ring_shape s a).0 i) ((line-bad most fit marked_ring_shape s b).0 j) (cc)

    is-fault : (p : ℕ) → RingFault marks most s p → (x : Reading) → read_line most ring_shape s ≡ x → (m : Bool) → marks ≡ m
        → (y : Reading) → read_line most marked_ring_shape s ≡ y → either_said x m y ≡ Err p
    unfolding either_said
    is-fault p f (Ok vs) i m k y j = absurd (f.here (whole Sonet vs (p + 1) tt ((line-good most fit ring_shape s vs).0 i)))
    is-fault p f (Err a) i false k y j = ap Err (one-ring-fault (plain-fault a k ((line-bad most fit ring_shape s a).0 i)) f)
    is-fault p f (Err a) i true k (Ok vs) j = absurd (f.here (whole Sdh vs (p + 1) k ((line-good most fit marked_ring_shape s vs).0 j)))
    is-fault p f (Err a) i true k (Err b) j =
        ap Err (one-ring-fault (later-fault a b (max a b) k ((line-bad most fit ring_shape s a).0 i) ((line-bad most fit marked_ring_shape s b).0 j) refl) f)

    -- a text is refused at p exactly when p is the place of its first faulty byte
    pub ring-bad : (p : ℕ) → (read_ring marks most s ≡ Err p) ↔ RingFault marks most s p
    unfolding read_ring
    ring-bad p = (
      fault-is p (read_line most ring_shape s) refl marks refl (read_line most marked_ring_shape s) refl,
      λ f. is-fault p f (read_line most ring_shape s) refl marks refl (read_line most marked_ring_shape s) refl,
    )

    -- as one view
    pub data RingRead : Result Ring ℕ → Type 0 where
      is_ring : {ring : Ring} → RingLineIs marks most s ring → RingRead (Ok ring)
      no_ring : {p : ℕ} → ((ring : Ring) → RingLineIs marks most s ring → ⊥) → RingFault marks most s p → RingRead (Err p)

    pub ring-read : RingRead (read_ring marks most s)
    ring-read = go (read_ring marks most s) refl
      where
        go : (x : Result Ring ℕ) → read_ring marks most s ≡ x → RingRead x
        go (Ok ring) e = is_ring ((ring-good ring).0 e)
        go (Err p) e = no_ring (λ ring h. clash (cc ((ring-good ring).1 h))) ((ring-bad p).0 e)

    -- that place is not behind the text
    within-two : (p : ℕ) (x : Reading) → read_line most ring_shape s ≡ x → (m : Bool) → (y : Reading) → read_line most marked_ring_shape s ≡ y → either_said x m y ≡ Err p → p ≤ length s
    unfolding either_said
    within-two p (Ok vs) i m y j e = clash (cc)
    within-two p (Err a) i false y j e = let ap : a ≡ p = cc in omega (arith, bad-within most fit ring_shape s a i)
    within-two p (Err a) i true (Ok vs) j e = clash (cc)
    within-two p (Err a) i true (Err b) j e =
        let m : max a b ≡ p = cc in
        omega (arith, bad-within most fit ring_shape s a i, bad-within most fit marked_ring_shape s b j)

    pub ring-within : (p : ℕ) → read_ring marks most s ≡ Err p → p ≤ length s
    unfolding read_ring
    ring-within p = within-two p (read_line most ring_shape s) refl marks (read_line most marked_ring_shape s) refl

-- ---- where no M may stand, an SDH ring's line is refused where LF should stand, which is the last byte of the line without the M

module _ (most : ℕ) (fit : Countable most) (n fibres : ℕ) (hn : n < limit most) (hf : fibres < limit most) where
  abbrev place : ℕ
  place = length (begun most fit n fibres)

  abbrev line : List ℕ
  line = ring_line (ring_of n fibres Sdh)

  goes-on : take place (ring_line (ring_of n fibres Sonet)) ≡ take place line
  goes-on =
      let p = plain-line most fit n fibres in
      let m = marked-line most fit n fibres in
      rw (p, m) (take-append_seam (begun most fit n fibres) (lf ∷ []) ∙ sym (take-append_seam (begun most fit n fibres) (tab ∷ letter_m ∷ lf ∷ [])))

  no-further : (vs : List ℕ) → FitsShape most ring_shape vs → take (place + 1) (write_line ring_shape vs) ≡ take (place + 1) line → ⊥
  no-further vs range e =
      let w = values-say most fit false Sonet (write_line ring_shape vs) vs tt (refl, range) in
      let begins : take (place + 1) line ≡ begun most fit n fibres ++ tab ∷ [] =
      ap (take (place + 1)) (marked-line most fit n fibres) ∙ take-append-add (begun most fit n fibres) (tab ∷ letter_m ∷ lf ∷ []) 1 in
      let rest : List ℕ = drop (place + 1) (write_line ring_shape vs) in
      let whole : write_line ring_shape vs ≡ begun most fit n fibres ++ tab ∷ rest =
      sym (take-append-drop (place + 1) (write_line ring_shape vs)) ∙ ap (λ (l : List ℕ). l ++ rest) (e ∙ begins) ∙ append_assoc (begun most fit n fibres) (tab ∷ []) rest in
      no-tab-behind most fit (get_or vs 1 0) (get_or vs 2 0) n fibres w.nodes w.fibres hn hf rest (sym w.text ∙ whole)

  marked-fault : RingFault false most line place
  marked-fault =
      record {
        before = record { family = Sonet; known = tt; line = record { vs = 0 ∷ n ∷ fibres ∷ []; range = ring-in-range most fit Sonet n fibres hn hf; text = goes-on } };
        here = λ l. none l.family l.known l.line;
      }
    where
      none : (family : Family) → Known false family → Agrees most (ring_shape_of family) line (place + 1) → ⊥
      none Sonet k l = no-further l.vs l.range l.text
      none Sdh k l = clash (cc)

  pub marked-refused : (p : ℕ) × ((read_ring false most (ring_line (ring_of n fibres Sdh)) ≡ Err p) × (p + 1 ≡ length (ring_line (ring_of n fibres Sonet))))
  marked-refused =
      (place, ((ring-bad most fit false line place).1 marked-fault, omega (arith, ap length (plain-line most fit n fibres), length-append (begun most fit n fibres) (lf ∷ []))))

-- the line of a ring, where its numbers have few enough digits and its family is known, is read as that ring
pub ring-back : (marks : Bool) (most : ℕ) → Countable most → (ring : Ring) → RingLineIs marks most (ring_line ring) ring → read_ring marks most (ring_line ring) ≡ Ok ring
ring-back marks most fit ring h = (ring-good most fit marks (ring_line ring) ring).1 h

-- ---- what is read without an M, or with numbers of fewer digits, is read with them

pub known-too : (low high : Bool) → (low ≡ true → high ≡ true) → (family : Family) → Known low family → Known high family
known-too low high more Sonet k = tt
known-too low high more Sdh k = more k

pub ring-wider : (low high : Bool) (few most : ℕ) → Countable few → Countable most → (low ≡ true → high ≡ true) → limit few ≤ limit most
    → (s : List ℕ) (ring : Ring) → read_ring low few s ≡ Ok ring → read_ring high most s ≡ Ok ring
ring-wider low high few most f m more wide s ring e =
    let h = (ring-good few f low s ring).0 e in
    (ring-good most m high s ring).1 (record { known = known-too low high more ring.family h.known; text = h.text; nodes = omega (arith, h.nodes, wide); fibres = omega (arith, h.fibres, wide) })

-- ---- its fields

-- nodes and fibres start at the same byte in either line
pub ring-byte-alike : (ring : Ring) (k : ℕ) → k ≤ 2 → field_byte ring_shape (0 ∷ ring.nodes ∷ ring.fibres ∷ []) k ≡ ring_byte ring k
unfolding field_byte write_line end_of
ring-byte-alike ring k h = go ring.family k h
  where
    go : (family : Family) (k : ℕ) → k ≤ 2 → field_byte ring_shape (0 ∷ ring.nodes ∷ ring.fibres ∷ []) k ≡ ring_byte (ring_of ring.nodes ring.fibres family) k
    go Sonet k h = refl
    go Sdh zero h = refl
    go Sdh (suc zero) h = refl
    go Sdh (suc (suc zero)) h = refl
    go Sdh (suc (suc (suc k))) h = absurd (omega arith)

-- ---- its length

-- of any numbers of 32 bits
pub ring-line-short : (ring : Ring) → length (ring_line ring) ≤ 44
ring-line-short ring = go ring.family
  where
    go : (family : Family) → length (ring_line (ring_of ring.nodes ring.fibres family)) ≤ 44
    go Sonet = omega (arith, line-short ring_shape (0 ∷ ring.nodes ∷ ring.fibres ∷ []))
    go Sdh = omega (arith, line-short marked_ring_shape (0 ∷ ring.nodes ∷ ring.fibres ∷ 0 ∷ []))
