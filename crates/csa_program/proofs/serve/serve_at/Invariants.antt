use Rattle.csa_program.specs.contracts.serve.AnyHosts.TheImpl as hosts
use Rattle.csa_program.proofs.serve.serve_at.Given as goal

-- the runs of the server that is asked for
abbrev pub ghosts-serve_named : goal.ghosts-serve_named
ghosts-serve_named g a = record {
  may_end =
      (hosts.ghosts g.row.H g.H.Disk g.H.Disk-dict g.H.Explains g.H.Explains-dict g.H.Clock g.H.Clock-dict g.H.WallClock g.H.WallClock-dict
      g.H.Threads g.H.Threads-dict g.H.Wait g.H.Wait-dict).may_host
      a.folders.now.disk.now a.folders.now.setup.now.request.now a.image a.folders.now.setup.now.zone_bytes.items;
}
