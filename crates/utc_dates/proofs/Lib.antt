mod CalendarLaws
