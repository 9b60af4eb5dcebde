use Rattle.std.proofs.Common.{◌≡◌, ◌+◌, ◌-◌, ◌≤◌, ◌++◌, length, map, take, vec_len, vec_capacity}
use Rattle.lpm_files.specs.Later.{later_route}
use Rattle.lpm_files.proofs.routes.RouteFilePiecewiseFile.append.Given as goal

abbrev pub invariant-loop-route : goal.invariant-loop-route
invariant-loop-route l = record {
  so_far : l.list.items ≡ l.fn.list.items ++ map (later_route l.lines) (take l.route-index l.more);
  room : vec_len l.list + (length l.more - l.route-index) ≤ vec_capacity l.list;
}
