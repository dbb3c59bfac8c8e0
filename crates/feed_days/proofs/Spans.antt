-- The days for which a test holds, and the first and the last of them.
use Rattle.std.proofs.Common.{◌≡◌, ◌≤◌, ◌+◌, ◌⊎◌, ◌||◌, inl, inr, Bool, true, false, refl, sym, ap, ◌∙◌, arith}
use Rattle.std.specs.Prelude.{IfNone, Option, Some, None}
use Rattle.std.proofs.lemmas.Bool.{cases_Bool, cases_order, false≢true}
use Rattle.gtfs_rows.specs.Values.{is_civil}
use Rattle.gtfs_rows.specs.declared.values.Day.{Day}
use Rattle.service_days.specs.Services.{is_not_after}
use Rattle.feed_days.specs.Service.{day_ordinal, HoldsOfNone, IsFirst, IsLast, IsSpan, SpansDays}
use Rattle.feed_days.specs.declared.span.DaySpan.{DaySpan}
use Rattle.feed_days.proofs.Order.{not_after_by_number, not_after_joined, not_after_turned, same_number}

-- tests that hold of the same days have the same span
first_same : (p q : Day → Bool) → ((d : Day) → p d ≡ q d) → (first : Day) → IsFirst p first → IsFirst q first
first_same p q same first is = record {
  holds = sym (same first) ∙ is.holds;
  least = λ d holds. is.least d (same d ∙ holds);
}

last_same : (p q : Day → Bool) → ((d : Day) → p d ≡ q d) → (last : Day) → IsLast p last → IsLast q last
last_same p q same last is = record {
  holds = sym (same last) ∙ is.holds;
  most = λ d holds. is.most d (same d ∙ holds);
}

pub span_same : (p q : Day → Bool) → ((d : Day) → p d ≡ q d) → (found : Option DaySpan) → SpansDays p found → SpansDays q found
span_same p q same None none = λ d. sym (same d) ∙ none d
span_same p q same (Some span) is = record { first = first_same p q same span.first is.first; last = last_same p q same span.last is.last }

-- one of two tests holds
left_holds : (a b : Bool) → a ≡ true → (a || b) ≡ true
left_holds true b is = refl
left_holds false b is = absurd (false≢true is)

right_holds : (a b : Bool) → b ≡ true → (a || b) ≡ true
right_holds true b is = refl
right_holds false b is = is

pub either : (a b : Bool) → (a || b) ≡ true → (a ≡ true) ⊎ (b ≡ true)
either true b is = inl refl
either false b is = inr is

first_of_two : (p q : Day → Bool) (f g h : Day) → IsFirst p f → IsFirst q g → (is_not_after f g ≡ true → h ≡ f) → (is_not_after f g ≡ false → h ≡ g)
    → IsFirst (λ d. p d || q d) h
first_of_two p q f g h one other first second =
    elim (cases_Bool (is_not_after f g)) [
      | inl before ↦ rw (first before) (record {
        holds = left_holds (p f) (q f) one.holds;
        least = λ d holds. elim (either (p d) (q d) holds) [
          | inl is ↦ one.least d is
          | inr is ↦ not_after_joined f g d before (other.least d is)
        ];
      })
      | inr after ↦ rw (second after) (record {
        holds = right_holds (p g) (q g) other.holds;
        least = λ d holds. elim (either (p d) (q d) holds) [
          | inl is ↦ not_after_joined g f d (not_after_turned f g after) (one.least d is)
          | inr is ↦ other.least d is
        ];
      })
    ]

last_of_two : (p q : Day → Bool) (f g h : Day) → IsLast p f → IsLast q g → (is_not_after f g ≡ true → h ≡ g) → (is_not_after f g ≡ false → h ≡ f)
    → IsLast (λ d. p d || q d) h
last_of_two p q f g h one other second first =
    elim (cases_Bool (is_not_after f g)) [
      | inl before ↦ rw (second before) (record {
        holds = right_holds (p g) (q g) other.holds;
        most = λ d holds. elim (either (p d) (q d) holds) [
          | inl is ↦ not_after_joined d f g (one.most d is) before
          | inr is ↦ other.most d is
        ];
      })
      | inr after ↦ rw (first after) (record {
        holds = left_holds (p f) (q f) one.holds;
        most = λ d holds. elim (either (p d) (q d) holds) [
          | inl is ↦ one.most d is
          | inr is ↦ not_after_joined d g f (other.most d is) (not_after_turned f g after)
        ];
      })
    ]

-- the days of two spans
pub both_spans : (p q : Day → Bool) (a b joined : DaySpan) → IsSpan p a → IsSpan q b
    → (is_not_after a.first b.first ≡ true → joined.first ≡ a.first) → (is_not_after a.first b.first ≡ false → joined.first ≡ b.first)
    → (is_not_after a.last b.last ≡ true → joined.last ≡ b.last) → (is_not_after a.last b.last ≡ false → joined.last ≡ a.last)
    → IsSpan (λ d. p d || q d) joined
both_spans p q a b joined one other first second third fourth = record {
  first = first_of_two p q a.first b.first joined.first one.first other.first first second;
  last = last_of_two p q a.last b.last joined.last one.last other.last third fourth;
}

-- the test holds of civil days alone
pub record IsOfCivil (test : Day → Bool) : Type 0 where
  pub civil : (d : Day) → test d ≡ true → is_civil d ≡ true

-- it holds of no civil day before this one, or of none after it
pub record HoldsFrom (test : Day → Bool) (day : Day) : Type 0 where
  pub from : (d : Day) → test d ≡ true → day_ordinal day ≤ day_ordinal d

pub record HoldsTo (test : Day → Bool) (day : Day) : Type 0 where
  pub to : (d : Day) → test d ≡ true → day_ordinal d ≤ day_ordinal day

other_number : (test : Day → Bool) (day d : Day) → IsOfCivil test → is_civil day ≡ true → test day ≡ false → test d ≡ true → day_ordinal d ≡ day_ordinal day → ⊥
other_number test day d of civil none is same =
    false≢true (sym none ∙ sym (ap test (same_number d day (of.civil d is) civil same)) ∙ is)

pub from_found : (test : Day → Bool) (day : Day) → IsOfCivil test → is_civil day ≡ true → test day ≡ true → HoldsFrom test day → IsFirst test day
from_found test day of civil is from = record {
  holds = is;
  least = λ d holds. not_after_by_number day d civil (of.civil d holds) (from.from d holds);
}

pub to_found : (test : Day → Bool) (day : Day) → IsOfCivil test → is_civil day ≡ true → test day ≡ true → HoldsTo test day → IsLast test day
to_found test day of civil is to = record {
  holds = is;
  most = λ d holds. not_after_by_number d day (of.civil d holds) civil (to.to d holds);
}

pub from_next : (test : Day → Bool) (day next : Day) → IsOfCivil test → is_civil day ≡ true → test day ≡ false → day_ordinal next ≡ day_ordinal day + 1
    → HoldsFrom test day → HoldsFrom test next
from_next test day next of civil none more from = record {
  from = λ d holds. elim (cases_order (day_ordinal d) (day_ordinal day)) [
    | inl same ↦ absurd (other_number test day d of civil none holds same)
    | inr (inl lt) ↦ absurd (let le = from.from d holds in omega (arith, lt, le))
    | inr (inr gt) ↦ omega (arith, gt, more)
  ];
}

pub to_before : (test : Day → Bool) (day before : Day) → IsOfCivil test → is_civil day ≡ true → test day ≡ false → day_ordinal before + 1 ≡ day_ordinal day
    → HoldsTo test day → HoldsTo test before
to_before test day before of civil none more to = record {
  to = λ d holds. elim (cases_order (day_ordinal d) (day_ordinal day)) [
    | inl same ↦ absurd (other_number test day d of civil none holds same)
    | inr (inl lt) ↦ omega (arith, lt, more)
    | inr (inr gt) ↦ absurd (let le = to.to d holds in omega (arith, gt, le))
  ];
}

-- a test that holds of no day
pub none_if : (test : Day → Bool) → ((d : Day) → test d ≡ true → ⊥) → HoldsOfNone test
none_if test never d =
    elim (cases_Bool (test d)) [
      | inl is ↦ absurd (never d is)
      | inr none ↦ none
    ]

pub none_from_last : (test : Day → Bool) (day : Day) → IsOfCivil test → is_civil day ≡ true → test day ≡ false → HoldsFrom test day
    → ((d : Day) → is_civil d ≡ true → day_ordinal d ≤ day_ordinal day) → HoldsOfNone test
none_from_last test day of civil none from last =
    none_if test (λ d is. other_number test day d of civil none is
    (let le = from.from d is in let ge = last d (of.civil d is) in omega (arith, le, ge)))

pub none_to_first : (test : Day → Bool) (day : Day) → IsOfCivil test → is_civil day ≡ true → test day ≡ false → HoldsTo test day
    → ((d : Day) → is_civil d ≡ true → day_ordinal day ≤ day_ordinal d) → HoldsOfNone test
none_to_first test day of civil none to first =
    none_if test (λ d is. other_number test day d of civil none is
    (let le = to.to d is in let ge = first d (of.civil d is) in omega (arith, le, ge)))

pub none_from_end : (test : Day → Bool) (day end : Day) → IsOfCivil test → is_civil day ≡ true → HoldsFrom test day → is_not_after day end ≡ false
    → ((d : Day) → test d ≡ true → is_not_after d end ≡ true) → HoldsOfNone test
none_from_end test day end of civil from past within =
    none_if test (λ d is. false≢true (sym past
    ∙ not_after_joined day d end (not_after_by_number day d civil (of.civil d is) (from.from d is)) (within d is)))

pub none_to_start : (test : Day → Bool) (day start : Day) → IsOfCivil test → is_civil day ≡ true → HoldsTo test day → is_not_after start day ≡ false
    → ((d : Day) → test d ≡ true → is_not_after start d ≡ true) → HoldsOfNone test
none_to_start test day start of civil to past within =
    none_if test (λ d is. false≢true (sym past
    ∙ not_after_joined start d day (within d is) (not_after_by_number d day (of.civil d is) civil (to.to d is))))

-- what holds is so where there is no value
pub if_none : {X : Type 0} (found : Option X) (P : Type 0) → P → IfNone found P
if_none None P is = is
if_none (Some x) P is = tt
