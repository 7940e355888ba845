mod DistinctIds
mod Gathering
mod Lists
mod SettingsLaws
