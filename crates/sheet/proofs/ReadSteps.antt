-- Reading a sheet part by part: what each part says of the rest is what reading the whole says. One law for each way on and each way out.
use Prim.Native.Nat.{ℕ, ◌+◌, ◌≤◌, ◌<◌}
use mathlib.Core.List.{List, [], ◌∷◌, ◌++◌}
use mathlib.Core.Path.{◌≡◌, refl, ◌∙◌, sym}
use native.Mathlib.Omega.{arith}
use lib.ListN.{length, length-append}
use borrow.Author.Tests.{lt-ltb, le-ltb}
use Rattle.std.specs.Prelude.{Result, Ok, Err}
use Rattle.ring.specs.Limits.{desk}
use Rattle.ring.specs.declared.types.Cut.{Cut}
use Rattle.ring.specs.declared.types.Link.{Link}
use Rattle.ring.specs.declared.types.Ring.{Ring}
use Rattle.ring.specs.declared.types.Routed.{Routed}
use Rattle.ring.specs.declared.types.Demand.{Demand}
use Rattle.text.specs.ReadLine.{read_line}
use Rattle.text.specs.Shapes.{sheet_row_shape, cut_shape, link_shape, last_shape}
use Rattle.reasons.specs.Faults.{row_found}
use Rattle.lines.specs.Lines.{lines}
use Rattle.reasons.specs.AndThen.{and_then}
use Rattle.lines.specs.OnLine.{values_on}
use Rattle.table.specs.ReadTable.{ring_on}
use Rattle.reasons.specs.Refusals.{refuse}
use Rattle.reasons.specs.declared.fault.Fault.{Fault}
use Rattle.reasons.specs.declared.reason.Reason.TheVariants.{TooLong, Misshapen}
use Rattle.reasons.specs.declared.reason.Refusal.{Refusal}
use Rattle.reasons.proofs.Faults.{row-none}
use Rattle.reasons.proofs.Judged.{RowJudged, row_fine, row-judged}
use Rattle.sheet.specs.ReadInto.{with_values}
use Rattle.sheet.specs.Read.{last_demand_of, link_in, sheet_with, row_by, cut_by, row_step, link_step, last_step, step, at_end, read_from, read_sheet}
use Rattle.sheet.specs.Says.{rows, links, end}
use Rattle.ring.specs.Sheet.{sheet_in, sents, demands}
use Rattle.ring.proofs.Small.{demands-length}
use Rattle.ring.specs.declared.types.Figures.{Figures}

-- ---- what is known where nothing is found

-- a row has room behind the rows rs
pub has_room : (n : ℕ) (rs : List Routed) (r : Demand) (o : Result Unit Fault) → o ≡ row_found desk n (length (demands (sents rs))) (last_demand_of rs) r → o ≡ Ok tt
    → length rs < desk.rows
has_room n rs r o e f =
    let q = row-none n (length (demands (sents rs))) (last_demand_of rs) r o e f in
    go (rw (← q) at (row-judged desk n (length (demands (sents rs))) (last_demand_of rs) r))
  where
    go : RowJudged desk n (length (demands (sents rs))) (last_demand_of rs) r (Ok tt) → length rs < desk.rows
    go (row_fine on order room most) = omega (arith, room, demands-length rs)

-- ---- what is read behind what is read

again : {A B C : Type 0} (x : Result A Refusal) (f : A → Result B Refusal) (g : B → Result C Refusal) → and_then (and_then x f) g ≡ and_then x (λ a. and_then (f a) g)
again (Ok a) f g = refl
again (Err r) f g = refl

-- ---- the D lines

-- rows are read of the lines `all`, and the lines `ls` are left
pub record RowsReading (ring : Ring) (all : List (List ℕ)) (rs : List Routed) (ls : List (List ℕ)) : Type 0 where
  pub rest : read_from desk (rows ring []) 2 all ≡ read_from desk (rows ring rs) (length rs + 2) ls

module _ (ring : Ring) (all : List (List ℕ)) (rs : List Routed) (before : List (List ℕ)) (reading : RowsReading ring all rs before) (count : ℕ) (many : count ≡ length rs) where
  -- no line is left
  pub rows-missing : before ≡ [] → refuse Misshapen (count + 2) 1 ≡ read_from desk (rows ring []) 2 all
  unfolding read_from at_end
  rows-missing none = sym (reading.rest ∙ rw (none, ← many))

  module _ (l : List ℕ) (ls : List (List ℕ)) (left : before ≡ l ∷ ls) where
    rows-led : read_from desk (rows ring []) 2 all ≡ and_then (row_step desk ring rs (count + 2) (read_line desk.digits sheet_row_shape l) (read_line desk.digits cut_shape l)) (λ next. read_from desk next (count + 2 + 1) ls)
    unfolding read_from step
    rows-led = reading.rest ∙ rw (left, ← many)

    module _ (vs : List ℕ) (is : Ok vs ≡ read_line desk.digits sheet_row_shape l) (y : Result Routed Refusal) (ey : y ≡ row_by desk ring rs (count + 2) vs) where
      row-led : read_from desk (rows ring []) 2 all ≡ and_then y (λ r. read_from desk (rows ring (rs ++ r ∷ [])) (count + 2 + 1) ls)
      unfolding row_step
      row-led = rows-led ∙ rw (← is, ← ey) (again y (λ r. Ok (rows ring (rs ++ r ∷ []))) (λ next. read_from desk next (count + 2 + 1) ls))

      pub row-refused : (r : Refusal) → y ≡ Err r → Err r ≡ read_from desk (rows ring []) 2 all
      row-refused r e = sym (row-led ∙ rw e)

      pub row-read : (r : Routed) (new : List Routed) → y ≡ Ok r → new ≡ rs ++ r ∷ [] → RowsReading ring all new ls
      row-read r new e f =
          let m : count + 2 + 1 ≡ length (rs ++ r ∷ []) + 2 = omega (arith, many, length-append rs (r ∷ [])) in
          rw f (record { rest = row-led ∙ rw (e, m) })

    -- the next line is no D line, so it is the C line
    pub cut-read : (p : ℕ) → Err p ≡ read_line desk.digits sheet_row_shape l → (y : Result Cut Refusal) → y ≡ cut_by (count + 2) p (read_line desk.digits cut_shape l)
        → and_then y (λ c. read_from desk (links ring rs c []) (length rs + 3) ls) ≡ read_from desk (rows ring []) 2 all
    unfolding row_step
    cut-read p is y ey =
        let m : length rs + 3 ≡ count + 2 + 1 = omega (arith, many) in
        rw m (sym (rows-led ∙ rw (← is, ← ey) (again y (λ c. Ok (links ring rs c [])) (λ next. read_from desk next (count + 2 + 1) ls))))

-- ---- the L lines

-- of the lines `all`, the first of which has the number `first`, the links ks are read; the next line has the number `line`, and the lines `left` are left
pub record LinksReading (ring : Ring) (all : List (List ℕ)) (first : ℕ) (left : List (List ℕ)) (line : ℕ) (ks : List Link) : Type 0 where
  pub rest : (rs : List Routed) (c : Cut) → read_from desk (links ring rs c []) first all ≡ read_from desk (links ring rs c ks) line left
  pub count : first + length ks ≡ line

module _ (ring : Ring) (all : List (List ℕ)) (first : ℕ) (before : List (List ℕ)) (line : ℕ) (ks : List Link) (reading : LinksReading ring all first before line ks) where
  pub link-missing : before ≡ [] → (rs : List Routed) (c : Cut) → refuse Misshapen line 1 ≡ read_from desk (links ring rs c []) first all
  unfolding read_from at_end
  link-missing none rs c = sym (reading.rest rs c ∙ rw none)

  module _ (below : line < first + ring.nodes) (l : List ℕ) (ls : List (List ℕ)) (left : before ≡ l ∷ ls) (y : Result (List ℕ) Refusal) (ey : y ≡ values_on line (read_line desk.digits link_shape l)) where
    link-led : (rs : List Routed) (c : Cut) → read_from desk (links ring rs c []) first all ≡ and_then y (λ vs. read_from desk (links ring rs c (ks ++ link_in vs ∷ [])) (line + 1) ls)
    unfolding read_from step link_step
    link-led rs c =
        let few : length ks < ring.nodes = omega (arith, reading.count) in
        reading.rest rs c
        ∙ rw (left, lt-ltb (length ks) ring.nodes few, ← ey) (again y (λ vs. Ok (links ring rs c (ks ++ link_in vs ∷ []))) (λ next. read_from desk next (line + 1) ls))

    pub link-refused : (r : Refusal) → y ≡ Err r → (rs : List Routed) (c : Cut) → Err r ≡ read_from desk (links ring rs c []) first all
    link-refused r e rs c = sym (link-led rs c ∙ rw e)

    pub link-read : (vs : List ℕ) (new : List Link) → y ≡ Ok vs → new ≡ ks ++ link_in vs ∷ [] → LinksReading ring all first ls (line + 1) new
    link-read vs new e f =
        rw f (record { rest = λ rs c. link-led rs c ∙ rw e; count = omega (arith, reading.count, length-append ks (link_in vs ∷ [])) })

-- ---- the Z line

module _ (ring : Ring) (c : Cut) (line : ℕ) (all : List (List ℕ)) where
  pub last-missing : all ≡ [] → (rs : List Routed) (ks : List Link) → ring.nodes ≤ length ks → refuse Misshapen line 1 ≡ read_from desk (links ring rs c ks) line all
  unfolding read_from at_end
  last-missing none rs ks many = sym (rw none)

  module _ (l : List ℕ) (ls : List (List ℕ)) (left : all ≡ l ∷ ls) (y : Result (List ℕ) Refusal) (ey : y ≡ values_on line (read_line desk.digits last_shape l)) where
    last-led : (rs : List Routed) (ks : List Link) → ring.nodes ≤ length ks
        → read_from desk (links ring rs c ks) line all ≡ and_then y (λ vs. read_from desk (end (sheet_with ring rs c ks vs)) (line + 1) ls)
    unfolding read_from step last_step
    last-led rs ks many =
        rw (left, le-ltb (length ks) ring.nodes many, ← ey) (again y (λ vs. Ok (end (sheet_with ring rs c ks vs))) (λ next. read_from desk next (line + 1) ls))

    pub last-refused : (r : Refusal) → y ≡ Err r → (rs : List Routed) (ks : List Link) → ring.nodes ≤ length ks → Err r ≡ read_from desk (links ring rs c ks) line all
    last-refused r e rs ks many = sym (last-led rs ks many ∙ rw e)

    module _ (vs : List ℕ) (e : y ≡ Ok vs) where
      pub left_over : (ls ≡ [] → ⊥) → (rs : List Routed) (ks : List Link) → ring.nodes ≤ length ks
          → refuse Misshapen (line + 1) 1 ≡ read_from desk (links ring rs c ks) line all
      unfolding read_from step at_end
      left_over more rs ks many = sym (last-led rs ks many ∙ rw e (go ls more))
        where
          go : (ls : List (List ℕ)) → (ls ≡ [] → ⊥) → read_from desk (end (sheet_with ring rs c ks vs)) (line + 1) ls ≡ refuse Misshapen (line + 1) 1
          go [] more = absurd (more refl)
          go (over ∷ others) more = refl

      pub last_done : ls ≡ [] → (rs : List Routed) (ks : List Link) → ring.nodes ≤ length ks → Ok (sheet_with ring rs c ks vs) ≡ read_from desk (links ring rs c ks) line all
      unfolding read_from at_end
      last_done none rs ks many = sym (last-led rs ks many ∙ rw (e, none))

-- ---- the whole

module _ (text : List ℕ) where
  pub too_long : desk.bytes < length text → refuse TooLong 0 0 ≡ read_sheet desk text
  unfolding read_sheet
  too_long h = sym (rw (lt-ltb _ _ h))

  module _ (short : length text ≤ desk.bytes) where
    pub no_line : lines text ≡ [] → refuse Misshapen 1 1 ≡ read_sheet desk text
    unfolding read_sheet read_from at_end
    no_line none = sym (rw (le-ltb desk.bytes (length text) short, none))

    module _ (l : List ℕ) (ls : List (List ℕ)) (left : lines text ≡ l ∷ ls) (y : Result Ring Refusal) (is : y ≡ ring_on desk l) where
      ring-led : read_sheet desk text ≡ and_then y (λ ring. read_from desk (rows ring []) 2 ls)
      unfolding read_sheet read_from step
      ring-led = rw (le-ltb desk.bytes (length text) short, left, ← is) (again y (λ ring. Ok (rows ring [])) (λ next. read_from desk next 2 ls))

      pub ring-refused : (r : Refusal) → y ≡ Err r → Err r ≡ read_sheet desk text
      ring-refused r e = sym (ring-led ∙ rw e)

      module _ (ring : Ring) (ok : y ≡ Ok ring) (rs : List Routed) (behind_rows : List (List ℕ)) (z : Result Cut Refusal)
          (led : and_then z (λ c. read_from desk (links ring rs c []) (length rs + 3) behind_rows) ≡ read_from desk (rows ring []) 2 ls) where
        rows-end : read_sheet desk text ≡ and_then z (λ c. read_from desk (links ring rs c []) (length rs + 3) behind_rows)
        rows-end = ring-led ∙ rw ok (sym led)

        pub rows-refused : (r : Refusal) → z ≡ Err r → Err r ≡ read_sheet desk text
        rows-refused r e = sym (rows-end ∙ rw e)

        module _ (cut : Cut) (ez : z ≡ Ok cut) (count : ℕ) (counted : count ≡ length rs) (ks : List Link) (behind_links : List (List ℕ)) (u : Result Unit Refusal)
            (behind : (rs : List Routed) (c : Cut) → and_then u (λ _. read_from desk (links ring rs c ks) (count + 3 + ring.nodes) behind_links)
            ≡ read_from desk (links ring rs c []) (count + 3) behind_rows) where
          links-end : read_sheet desk text ≡ and_then u (λ _. read_from desk (links ring rs cut ks) (count + 3 + ring.nodes) behind_links)
          links-end = rows-end ∙ rw (ez, ← counted) (sym (behind rs cut))

          pub links-refused : (r : Refusal) → u ≡ Err r → Err r ≡ read_sheet desk text
          links-refused r f = sym (links-end ∙ rw f)

          pub sheet-read : u ≡ Ok tt → ring.nodes ≤ length ks → (v : Result Figures Refusal)
              → ((rs : List Routed) (ks : List Link) → ring.nodes ≤ length ks → and_then v (λ x. Ok (sheet_in x rs ks)) ≡ read_from desk (links ring rs cut ks) (count + 3 + ring.nodes) behind_links)
              → with_values rs ks v ≡ read_sheet desk text
          sheet-read eu all v last = last rs ks all ∙ sym (links-end ∙ rw eu)
