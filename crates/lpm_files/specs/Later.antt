-- This layer's own: a route that stands later in a file (this project's).
use Rattle.std.specs.Prelude.{ℕ, ◌+◌}
use Rattle.route_text.specs.declared.routes.Route.{Route}

-- the route of a line that stands k lines later
abbrev pub later_route : ℕ → Route → Route
later_route k route = record route { line = route.line + k }
