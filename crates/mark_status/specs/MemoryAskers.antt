-- What an asker in memory holds.
use Rattle.std.specs.Prelude.{◌≡◌, List, length, get_or, Option, Some, None, Result, Ok, Err}
use Rattle.fed_base.specs.Plans.{IsDue, Plan, plan_of}
use Rattle.fed_ports.specs.declared.link.LinkFault.{LinkFault}
use Rattle.fed_ports.specs.declared.link.LinkFault.TheVariants.{Failed, Memory}
use Rattle.fed_ports.specs.declared.page.Page.{Page}
use Rattle.fed_ports.specs.declared.page.Page.TheVariants.{NoRoute}
use Rattle.mark_status.specs.declared.memory_asker.MemoryAsker.{MemoryAsker}
use Rattle.mark_status.specs.declared.post.Post.{Post}
use Rattle.mark_status.specs.Posts.{Asked, asked_of}

-- the pages with which it was made
abbrev pub asker_pages : MemoryAsker → List Page
asker_pages asker = asker.pages

-- the posts that were made
abbrev pub asker_posts : MemoryAsker → List Post
asker_posts asker = asker.posts

-- the calls that are to fail
abbrev pub asker_plan : MemoryAsker → Plan
asker_plan asker = plan_of asker.plan

-- how it stands, which it tells whole
abbrev pub asker_asked : MemoryAsker → Asked
asker_asked asker = asked_of (asker_plan asker).made asker.faults (Some (asker_posts asker))

-- the page of the next post
abbrev pub next_page : MemoryAsker → Page
next_page asker = get_or (asker_pages asker) (length (asker_posts asker)) NoRoute

-- a post fails where its call is to fail, and else is answered by its page
abbrev pub IsAnswered : MemoryAsker → Option Page → Type 0
IsAnswered asker None = IsDue (asker_plan asker)
IsAnswered asker (Some page) = (¬ IsDue (asker_plan asker)) × (page ≡ next_page asker)

abbrev pub IsPlanned : MemoryAsker → Result Page LinkFault → Type 0
IsPlanned asker (Ok page) = IsAnswered asker (Some page)
IsPlanned asker (Err Failed) = IsAnswered asker None
IsPlanned asker (Err Memory) = Unit {0}
