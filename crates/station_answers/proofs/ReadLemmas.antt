-- Which connections several scans read.
use Rattle.std.proofs.Common.{◌≡◌, ℕ, suc, ◌+◌, ◌<◌, List, ◌++◌, length, reverse, take, sym, ◌∙◌, ap, arith}
use Rattle.std.proofs.Common.{append_assoc, append-nil}
use Rattle.timetable.specs.TimetableValue.{TimetableValue}
use Rattle.profile_scan.proofs.LogLemmas.{taken_all}
use Rattle.scan_state.specs.SetQuery.{SetQueryValue}
use Rattle.station_answers.specs.Reading.{ReadsPart, ReadsWindow, repeated, window_between}

pub one_scan_more : (log read now new : List ℕ) (n : ℕ) → now ≡ log ++ repeated n read → new ≡ now ++ read → new ≡ log ++ repeated (n + 1) read
one_scan_more log read now new n was more =
    let next : suc n ≡ n + 1 = omega arith in
    more ∙ (ap (λ (xs : List ℕ). xs ++ read) was ∙ (append_assoc log (repeated n read) read ∙ ap (λ (k : ℕ). log ++ repeated k read) next))

pub part_of_one : (t : TimetableValue) (b : SetQueryValue) (log now new : List ℕ) (n part : ℕ) → n < length b.targets
    → now ≡ log ++ repeated n (reverse (window_between t b)) → new ≡ now ++ take part (reverse (window_between t b)) → ReadsPart t b log new
part_of_one t b log now new n part below was more = record {
  scans = n;
  part = part;
  most = omega (arith, below);
  log = more ∙ ap (λ (xs : List ℕ). xs ++ take part (reverse (window_between t b))) was;
}

pub all_of_one : (t : TimetableValue) (b : SetQueryValue) (log now new : List ℕ) (n : ℕ) → n < length b.targets
    → now ≡ log ++ repeated n (reverse (window_between t b)) → new ≡ now ++ reverse (window_between t b) → ReadsPart t b log new
all_of_one t b log now new n below was more =
    part_of_one t b log now new n (length (reverse (window_between t b))) below was (taken_all now (reverse (window_between t b)) new more)

pub all_read : (t : TimetableValue) (b : SetQueryValue) (log new : List ℕ) → ReadsWindow t b log new → ReadsPart t b log new
all_read t b log new reads = record {
  scans = reads.scans;
  part = 0;
  most = reads.most;
  log = reads.log ∙ sym (append-nil (log ++ repeated reads.scans (reverse (window_between t b))));
}
