-- What two reads of a line alone tell of its records.
use Rattle.std.proofs.Common.{◌≡◌, ℕ, suc, zero, List, [], ◌∷◌, length, Option, Some, None, Bool, true, false, refl, ap, ◌∙◌, add-one}
use Rattle.csv.specs.Machine.{Read, next_record}
use Rattle.csv.specs.Reading.{default_config, records, records_from, records_next, ReadsNext, ReadRecord, NextIs, source_of, pending_of, reader_config}
use Rattle.csv.specs.Reading.{reader_state, strip_bom}
use Rattle.csv.specs.declared.parser.Config.{Config}
use Rattle.bl_rows.specs.Fields.{records_in}
use Rattle.csv.specs.declared.parser.State.{State}
use Rattle.csv.specs.declared.parser.State.TheVariants as st
use Rattle.csv.specs.declared.reader.Reader.{Reader}
use Rattle.bl_rows.specs.inner.Found.{Finds}
use Rattle.bl_rows.specs.declared.found.Found.TheVariants.{Several}

-- all records by the first read and the rest
pub records_by : (xs : List ℕ) → records default_config xs
    ≡ records_next (records_from default_config (length xs)) (next_record default_config st.StartRecord [] [] xs)
unfolding records_from
records_by xs = rw add-one refl

none_next : (o : Option Read) (f : List (List ℕ)) (s : State) (ys : List ℕ) (more : State → List ℕ → List (List (List ℕ))) →
    NextIs o false f s ys → records_next more o ≡ []
none_next None f s ys more h = refl
none_next (Some p) f s ys more h = cc

none_read : (xs : List ℕ) (k : Option (List ℕ)) (f : List (List ℕ)) (s : State) →
    ReadsNext default_config st.StartRecord (Some xs) k false f s → records default_config xs ≡ []
none_read xs None f s h = absurd h
none_read xs (Some ys) f s h = records_by xs ∙ none_next _ f s ys _ h

some_next : (o : Option Read) (f : List (List ℕ)) (s : State) (ys : List ℕ) (more : State → List ℕ → List (List (List ℕ))) →
    NextIs o true f s ys → records_next more o ≡ f ∷ more s ys
some_next None f s ys more h = cc
some_next (Some p) f s ys more h = rw (h.1, h.2, h.3) refl

-- no record after the last
last_none : (n : ℕ) (s : State) (ys : List ℕ) (f : List (List ℕ)) (s2 : State) (zs : List ℕ) →
    NextIs (next_record default_config s [] [] ys) false f s2 zs → records_from default_config n s ys ≡ []
unfolding records_from
last_none zero s ys f s2 zs h = refl
last_none (suc n) s ys f s2 zs h = none_next _ f s2 zs _ h

one_read : (xs : List ℕ) (k k2 : Option (List ℕ)) (f f2 : List (List ℕ)) (s s2 : State)
    → ReadsNext default_config st.StartRecord (Some xs) k true f s → ReadsNext default_config s k k2 false f2 s2 → records default_config xs ≡ f ∷ []
one_read xs None k2 f f2 s s2 h g = absurd h
one_read xs (Some ys) None f f2 s s2 h g = absurd g
one_read xs (Some ys) (Some zs) f f2 s s2 h g =
    records_by xs ∙ (some_next _ f s ys _ h ∙ ap (λ r. f ∷ r) (last_none (length xs) s ys f2 s2 zs g))

-- a second record after the first
second_of : (n : ℕ) (s : State) (ys : List ℕ) (f : List (List ℕ)) (s2 : State) (zs : List ℕ) →
    NextIs (next_record default_config s [] [] ys) true f s2 zs
    → records_from default_config (suc n) s ys ≡ f ∷ records_from default_config n s2 zs
unfolding records_from
second_of n s ys f s2 zs h = some_next _ f s2 zs _ h

several_read : (xs : List ℕ) (k k2 : Option (List ℕ)) (f f2 : List (List ℕ)) (s s2 : State)
    → ReadsNext default_config st.StartRecord (Some xs) k true f s → ReadsNext default_config s k k2 true f2 s2 →
    (g : List (List ℕ)) → Finds (records default_config xs) g Several
unfolding next_record
several_read xs None k2 f f2 s s2 h g any = absurd h
several_read xs (Some ys) None f f2 s s2 h g any = absurd g
several_read [] (Some ys) (Some zs) f f2 s s2 h g any = cc
several_read (x ∷ xs) (Some ys) (Some zs) f f2 s s2 h g any = (
  f,
  f2,
  records_from default_config (length xs) s2 zs,
  records_by (x ∷ xs)
      ∙ (some_next _ f s ys _ h ∙ ap (λ r. f ∷ r) (second_of (length xs) s ys f2 s2 zs g)),
)

-- what is unread after a read is what it left
goes_on : {R : Type 0} (rem : R → Option (List ℕ)) (a : Reader R) → a.bom_checked ≡ true → source_of rem a ≡ pending_of (rem a.rdr) a
goes_on rem a h = rw h refl

reads_as : (cfg cfg2 : Config) (s s2 : State) (src src2 k : Option (List ℕ)) (found found2 : Bool) (f : List (List ℕ)) (s3 : State)
    → cfg ≡ cfg2 → s ≡ s2 → src ≡ src2 → found ≡ found2 → ReadsNext cfg s src k found f s3 → ReadsNext cfg2 s2 src2 k found2 f s3
reads_as cfg cfg2 s s2 src src2 k found found2 f s3 e1 e2 e3 e4 h = rw (e1, e2, e3, e4) at h

-- a reader at the start of a line
pub record Starts {R : Type 0} (rem : R → Option (List ℕ)) (a : Reader R) (line : List ℕ) : Type 0 where
  pub config : reader_config a ≡ default_config
  pub state : reader_state a ≡ st.StartRecord
  pub source : source_of rem a ≡ Some (strip_bom line)

first_reads : {R : Type 0} (rem : R → Option (List ℕ)) (a b : Reader R) (line : List ℕ) (found want : Bool) (f : List (List ℕ)) →
    Starts rem a line → ReadRecord rem a b found f → found ≡ want
    → ReadsNext default_config st.StartRecord (Some (strip_bom line)) (pending_of (rem b.rdr) b) want f b.state
first_reads rem a b line found want f h g e = reads_as a.config default_config a.state st.StartRecord _ _ _ found want f b.state h.config h.state h.source e g.0

next_reads : {R : Type 0} (rem : R → Option (List ℕ)) (a b c : Reader R) (line : List ℕ) (found found2 want : Bool)
    (f f2 : List (List ℕ)) → Starts rem a line → ReadRecord rem a b found f
    → ReadRecord rem b c found2 f2 → found2 ≡ want → ReadsNext default_config b.state (pending_of (rem b.rdr) b)
    (pending_of (rem c.rdr) c) want f2 c.state
next_reads rem a b c line found found2 want f f2 h g k e =
    reads_as b.config default_config b.state b.state _ _ _ found2 want f2 c.state (g.2 ∙ h.config) refl (goes_on rem b g.1) e k.0

pub line_none : {R : Type 0} (rem : R → Option (List ℕ)) (a b : Reader R) (line : List ℕ) (found : Bool) (f : List (List ℕ)) →
    Starts rem a line → ReadRecord rem a b found f → found ≡ false
    → records_in line ≡ []
unfolding records_in
line_none rem a b line found f h g e = none_read (strip_bom line) _ f b.state (first_reads rem a b line found false f h g e)

pub line_one : {R : Type 0} (rem : R → Option (List ℕ)) (a b c : Reader R) (line : List ℕ) (found found2 : Bool)
    (f f2 : List (List ℕ)) → Starts rem a line → ReadRecord rem a b found f → found ≡ true
    → ReadRecord rem b c found2 f2 → found2 ≡ false → records_in line ≡ f ∷ []
unfolding records_in
line_one rem a b c line found found2 f f2 h g e k e2 =
    one_read (strip_bom line) _ _ f f2 b.state c.state (first_reads rem a b line found true f h g e)
    (next_reads rem a b c line found found2 false f f2 h g k e2)

pub line_several : {R : Type 0} (rem : R → Option (List ℕ)) (a b c : Reader R) (line : List ℕ) (found found2 : Bool)
    (f f2 : List (List ℕ)) → Starts rem a line → ReadRecord rem a b found f → found ≡ true
    → ReadRecord rem b c found2 f2 → found2 ≡ true → (any : List (List ℕ)) → Finds (records_in line) any Several
unfolding records_in
line_several rem a b c line found found2 f f2 h g e k e2 any =
    several_read (strip_bom line) _ _ f f2 b.state c.state (first_reads rem a b line found true f h g e)
    (next_reads rem a b c line found found2 true f f2 h g k e2) any
