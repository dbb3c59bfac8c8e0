-- What a scan keeps, as one source sees it.
use Rattle.scan_state.specs.ScanRecords.{KeptValue, ScanRecords, scan_records}
use Rattle.profile_scan.specs.declared.view.ScanView.{ScanView}

-- what it has written down
abbrev pub scan_records_seen : {K L V : Type 0} {c : _} → (L → KeptValue V) → ScanView K L V c → ScanRecords
scan_records_seen value view = scan_records (value view.keeping.now).exits (value view.keeping.now).steps view.origin.now.set_outs.items
