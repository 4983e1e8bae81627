use Rattle.sdb_serve.proofs.FaultCounts.{a_fault_rose}
use Rattle.sdb_serve.proofs.Verdicts.{complete, stops_at_bad}
use Rattle.sdb_serve.proofs.entry.run.Goals as goal

pub returns-then-is_script-clause-completeness : goal.returns-then-is_script-clause-completeness
returns-then-is_script-clause-completeness g c = λ input words told script no_source no_sink no_disk.
    let run = c.run_script.ensures in
    complete _ c.run_script.result.status input _ _ _ (run.replies input told) script
    (λ e. no_source (a_fault_rose _ _ ((run.source (λ h. cc)).0 e))) (λ e. no_sink (a_fault_rose _ _ (run.sink.0 e)))
    (λ e. no_disk (a_fault_rose _ _ ((run.disk (λ h. cc)).0 e)))

pub returns-then-is_script-clause-bad_line : goal.returns-then-is_script-clause-bad_line
returns-then-is_script-clause-bad_line g c = λ input n words told bad no_source no_sink no_disk.
    let run = c.run_script.ensures in
    stops_at_bad _ c.run_script.result.status input n _ _ _ (run.replies input told) bad
    (λ e. no_source (a_fault_rose _ _ ((run.source (λ h. cc)).0 e))) (λ e. no_sink (a_fault_rose _ _ (run.sink.0 e)))
    (λ e. no_disk (a_fault_rose _ _ ((run.disk (λ h. cc)).0 e)))
